-- The JAM21 profile as a value: each rule is a test of the segment from a to b.
--
--   ra, svo, spush, volint   the tests of the four rules, for a pair in program order. An initial
--                            write is relaxed, so it never passes for an access of mode sc, rel or acq
--   keep, push               the tests of a kept and of a pushed pair
--   jam21                    the profile: keeps by the four, and pushes by spush and volint
use Rattle.std.specs.Prelude.{Bool, ◌&&◌, ◌||◌}
use Rattle.graph.specs.Codes.{is_access}
use Rattle.profiles.specs.Meaning.{Meaning}
use Rattle.profiles.specs.Modes.{marks, is_sc_access, is_release_fence, is_acquire_fence, is_sc_fence}
use Rattle.profiles.specs.Patterns.{followed, any}
use Rattle.profiles.specs.Segments.{Segment, inner_codes, by_segment}

unfoldable pub ra : Segment → Bool
ra s = marks s.first.code || (marks s.last.code || any marks (inner_codes s))

unfoldable pub svo : Segment → Bool
svo s = followed is_release_fence (followed is_access (any is_acquire_fence)) (inner_codes s)

unfoldable pub spush : Segment → Bool
spush s = any is_sc_fence (inner_codes s)

unfoldable pub volint : Segment → Bool
volint s = is_sc_access s.first.code && is_sc_access s.last.code

abbrev pub keep : Segment → Bool
keep s = ra s || (svo s || (spush s || volint s))

abbrev pub push : Segment → Bool
push s = spush s || volint s

abbrev pub jam21 : Meaning
jam21 = by_segment keep push
