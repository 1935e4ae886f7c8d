use Rattle.std.specs.Prelude.{ℕ, List, Vec, Option, Some}
use Rattle.std.specs.declared.alloc.Global.{Global}
use Rattle.std.proofs.Common.{sym, ◌∙◌, ap}
use Rattle.std.specs.Option.{option_map}
use Rattle.cc_io.proofs.Named.{file_of-named}
use Rattle.cc_io.proofs.mem_files.find.Goals as goal

abbrev items : Option (Vec ℕ Global) → Option (List ℕ)
items o = option_map (λ v. v.items) o

pub returns-in-Some : goal.returns-in-Some
returns-in-Some c = let same = file_of-named c.args.map.now.entries c.args.name.now in let found = c.in-Some.ensures.value in
    ap Some c.as_slice.ensures.value ∙ ap items found ∙ sym same

pub returns-in-None : goal.returns-in-None
returns-in-None c = let same = file_of-named c.args.map.now.entries c.args.name.now in let found = c.in-None.ensures.value in ap items found ∙ sym same
