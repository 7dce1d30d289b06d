-- The rules of JAM21 by the summary of a pair in program order.
--
--   rules_of r   which of the four rules hold for a pair with the summary r
use Rattle.std.specs.Prelude.{◌&&◌, ◌||◌, []}
use Rattle.profiles.specs.declared.jam21.Rules.{Rules}
use Rattle.profiles.specs.declared.scan.Summary.{Summary}
use Rattle.profiles.specs.Modes.{marks, is_sc_access}
use Rattle.profiles.specs.Scans.{completes}

abbrev pub rules_of : Summary → Rules
rules_of r = record {
  ra = (marks r.first || marks r.last) || r.met.marked;
  svo = completes r.met.stage [];
  spush = r.met.fenced;
  volint = is_sc_access r.first && is_sc_access r.last;
}
