-- A list of parts with one more.
use Rattle.std.proofs.Common.{◌≡◌, List, [], ◌∷◌, ◌++◌, Some, ap, ◌∙◌}
use Rattle.cc_base.specs.declared.place.Place.{Place}
use Rattle.c_tree.specs.Tree as tree
use Rattle.c_tree.specs.Views.{expr_view, part_view}
use Rattle.c_tree.specs.declared.expr.Expr.{Expr}
use Rattle.c_tree.specs.declared.expr.Part.{Part}
use Rattle.c_tree.specs.declared.expr.Part.TheVariants as part
use Rattle.c_tree.specs.declared.leaf.Word.{Word}
use Rattle.c_tree.proofs.PushLaws.{added-push}
use Rattle.c_tree.proofs.ViewLaws.{view_part-Array}
use Rattle.c_parse_words.specs.Lists.{parts_seen}

pub sized_array-push : (before after : List Part) (at : Place) (words : List Word) (e : Expr) → after ≡ before ++ part.Array at words (Some e) ∷ []
    → parts_seen after ≡ tree.AndSizedArray (parts_seen before) at words (expr_view e)
sized_array-push before after at words e same =
    ap parts_seen same ∙ added-push part_view tree.NoPart before (part.Array at words (Some e)) ∙ ap (λ view. view (parts_seen before)) (view_part-Array at words (Some e))
