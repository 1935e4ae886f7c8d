use Rattle.std.proofs.Common.{ap, sym, ◌∙◌, length}
use Rattle.c_tree.specs.TypedParts.{functions_of}
use Rattle.lower_units.proofs.MainLaws.{code_behind, code_count}
use Rattle.lower_units.proofs.externals.add.Goals as goal

pub returns : goal.returns
returns c = λ all h. record {
  functions = rw c.in_ok-push.ensures.items (code_behind _ _ _ _ _ _ h.functions c.in_ok-one.ensures);
  main = c.main_with-made.ensures (functions_of all) (ap length c.as_slice-number.ensures.value ∙ sym (code_count _ _ _ _ h.functions)) h.main;
}
