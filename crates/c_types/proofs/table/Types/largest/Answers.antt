use Rattle.std.proofs.Common.{ap, sym, subst, ◌∙◌, take, get_or, Option, None, Some}
use Rattle.std.specs.Prelude.{IfSome}
use Rattle.std.proofs.lemmas.List.{take_more}
use Rattle.cc_base.specs.declared.number.TypeId.{TypeId}
use Rattle.c_types.specs.Layouts.{size_of}
use Rattle.c_types.specs.PointerCounts.{larger, largest_member}
use Rattle.c_types.specs.Table.{IsComplete}
use Rattle.c_types.proofs.PointerCounts.{larger_complete, largest_more}
use Rattle.c_types.proofs.table.Types.largest.Goals as goal

pub members-preserved : goal.members-preserved
members-preserved c =
    let none : TypeId = record { 0 = 0 } in
    let m : TypeId = get_or c.args.members.now c.members.m-index none in
    record {
      same =
          c.larger-found.ensures
          ∙ ap (λ (x : Option TypeId). Some (larger (size_of c.args.self.now) x m)) c.members.invariant.same
          ∙ sym (largest_more (size_of c.args.self.now) None (take c.members.m-index c.args.members.now) m)
          ∙ sym (ap (largest_member (size_of c.args.self.now) None) (take_more c.args.members.now c.members.m-index none c.members-test.true));
      complete =
          subst (λ (x : Option TypeId). IfSome x (IsComplete c.args.self.now)) (sym c.larger-found.ensures)
          (larger_complete c.args.self.now c.members.found m c.members.invariant.complete (c.requires c.members.m-index none c.members-test.true));
    }
