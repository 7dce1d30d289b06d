-- The strict profile.
--
--   strict   keeps every pair in program order, and pushes every such pair of two added events
use Rattle.std.specs.Prelude.{◌&&◌, nat_le}
use Rattle.graph.specs.Order.{po}
use Rattle.profiles.specs.Meaning.{Meaning}

abbrev pub strict : Meaning
strict = record { kept = po; pushed = λ es a b. nat_le 8 a && po es a b }
