use Rattle.std.proofs.Common.{◌≡◌, ◌+◌, drop, take, length, refl, sym, ap, ◌∙◌, arith}
use Rattle.std.proofs.lemmas.List.{length-take}
use Rattle.cc_io.specs.Outside.{PiecesState}
use Rattle.cc_io.proofs.Taken.{front_taken}
use Rattle.cc_io.proofs.pieces.Pieces.give.Goals as goal

pub returns-clause-takes : goal.returns-clause-takes
returns-clause-takes c =
    let taken = c.self.inside.taken in
    let bytes = c.self.inside.bytes.items in
    let count = c.min-count.result in
    let held = ap (λ (s : PiecesState). s.held) (sym c.self.view_is) in
    let left = c.split_at.ensures.back ∙ ap (drop taken) c.deref.ensures.value in
    let copied = c.copy_from_slice.ensures.after ∙ ap (take count) left in
    let len : length c.copy_from_slice.new.self ≡ count = grind (arith, length-take, c.min.ensures, c.min-count.ensures, c.copy_from_slice.ensures.len) in
    (drop (taken + count) bytes, held ∙ front_taken count taken bytes c.copy_from_slice.new.self c.args.into.now copied len, refl)
