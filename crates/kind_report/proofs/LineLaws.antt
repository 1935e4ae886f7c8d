use Rattle.std.proofs.Common.{◌≡◌, [], ◌∙◌, ◌++◌, ◌+◌, ◌<◌, ap, refl, ℕ, Some, None, List, Option, length, take, slice_get, slice_index_or}
use Rattle.std.proofs.lemmas.Option.{get_or_from_slice_get}
use Rattle.std.proofs.lemmas.List.{flat_map_more, take_more}
use Rattle.cc_base.specs.declared.kind.Kind.{Kind}
use Rattle.cc_base.specs.declared.kind.Kind.TheVariants.{Safe}
use Rattle.c_tree.specs.declared.typed_unit.Printed.{Printed}
use Rattle.kind_solver.specs.declared.cause.Cause.{Cause}
use Rattle.kind_report.specs.Report.{line_by, line_of, report_of}

-- the line of a node by what the tables have for it
line-is : (kinds : List Kind) (causes : List (Option Cause)) (p : Printed) (kind : Kind) (cause : Option Cause)
    → slice_get kinds p.node.0 ≡ Some kind → slice_get causes p.node.0 ≡ Some cause
    → line_by p.home p kind cause ≡ line_of kinds causes p
line-is kinds causes p kind cause k c =
    rw (get_or_from_slice_get kinds p.node.0 kind Safe k, get_or_from_slice_get causes p.node.0 cause None c) refl

-- one node more
pub one-more : (kinds : List Kind) (causes : List (Option Cause)) (printed : List Printed) (i : ℕ) (d : Printed)
    (kind : Kind) (cause : Option Cause) (before after : List ℕ) → i < length printed
    → slice_get kinds (slice_index_or printed i d).node.0 ≡ Some kind
    → slice_get causes (slice_index_or printed i d).node.0 ≡ Some cause
    → before ≡ report_of kinds causes (take i printed)
    → after ≡ before ++ line_by (slice_index_or printed i d).home (slice_index_or printed i d) kind cause
    → after ≡ report_of kinds causes (take (i + 1) printed)
one-more kinds causes printed i d kind cause before after below k c was is =
    is ∙ ap (λ text. text ++ line_by (slice_index_or printed i d).home (slice_index_or printed i d) kind cause) was
    ∙ rw (take_more printed i d below, line-is kinds causes (slice_index_or printed i d) kind cause k c)
    (flat_map_more (line_of kinds causes) [] (take i printed) (slice_index_or printed i d))
