-- A cut is told in one way.
use Rattle.std.proofs.Common.{rules}
use Rattle.sections.proofs.Cutting.{sectioned_once}
use Rattle.sections.proofs.Section.cut.Goals as goal

pub returns-then-whole-count-clause-only : goal.returns-then-whole-count-clause-only
returns-then-whole-count-clause-only c = λ o p. sectioned_once _ c.args.start c.args.size o _ p (search rules)
