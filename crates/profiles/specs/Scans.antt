-- What a scan has met in a list of codes.
--
--   awaits s c       c is what the stage s waits for
--   further s        the stage after s
--   completes s cs   from the stage s, the codes cs bring what is left of a release fence, an
--                    access and an acquire fence, in this order
--   stepped s c      the scan s after one more event, of code c
--   Met s cs         the scan s holds what stands in the codes cs: whether one marks, whether one is
--                    an sc fence, and the stage from which any further codes complete exactly what
--                    they complete after cs
--   Sums r s         the summary r holds the codes at both ends of the segment s, and what stands
--                    strictly between
use Rattle.std.specs.Prelude.{◌≡◌, Bool, true, false, ◌||◌, if◌then◌else◌, List, ◌++◌}
use Rattle.graph.specs.declared.code.Code.{Code}
use Rattle.graph.specs.Codes.{is_access}
use Rattle.profiles.specs.declared.scan.Stage.{Stage}
use Rattle.profiles.specs.declared.scan.Stage.TheVariants.{Waiting, Released, Accessed, Complete}
use Rattle.profiles.specs.declared.scan.Scan.{Scan}
use Rattle.profiles.specs.declared.scan.Summary.{Summary}
use Rattle.profiles.specs.Modes.{marks, is_release_fence, is_acquire_fence, is_sc_fence}
use Rattle.profiles.specs.Patterns.{followed, any}
use Rattle.profiles.specs.Segments.{Segment, inner_codes}

abbrev pub awaits : Stage → Code → Bool
awaits Waiting c = is_release_fence c
awaits Released c = is_access c
awaits Accessed c = is_acquire_fence c
awaits Complete c = false

abbrev pub further : Stage → Stage
further Waiting = Released
further Released = Accessed
further Accessed = Complete
further Complete = Complete

abbrev pub completes : Stage → List Code → Bool
completes Waiting cs = followed is_release_fence (followed is_access (any is_acquire_fence)) cs
completes Released cs = followed is_access (any is_acquire_fence) cs
completes Accessed cs = any is_acquire_fence cs
completes Complete cs = true

abbrev pub stepped : Scan → Code → Scan
stepped s c = record {
  marked = s.marked || marks c;
  fenced = s.fenced || is_sc_fence c;
  stage = if awaits s.stage c then further s.stage else s.stage;
}

pub record Met (s : Scan) (cs : List Code) : Type 0 where
  pub marked : s.marked ≡ any marks cs
  pub fenced : s.fenced ≡ any is_sc_fence cs
  pub stage : (more : List Code) → completes s.stage more ≡ completes Waiting (cs ++ more)

pub record Sums (r : Summary) (s : Segment) : Type 0 where
  pub first : r.first ≡ s.first.code
  pub last : r.last ≡ s.last.code
  pub met : Met r.met (inner_codes s)
