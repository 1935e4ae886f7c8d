-- What is read is not said where there is no memory.
use Rattle.std.proofs.Common.{◌≡◌, refl, Result, Err, List}
use Rattle.parse_rules.specs.Parsers.{Answer}
use Rattle.c_tree.specs.Symbols.{Symbol}
use Rattle.c_parse_words.specs.declared.stop.Stop.{Stop}
use Rattle.c_parse_words.specs.declared.stop.Stop.TheVariants.{NoMemory}
use Rattle.c_parse_words.specs.Seen.{Reads}

pub no_memory : {A B : Type 0} (view : B → A) (answer : Answer Symbol A) (r : Result B Stop) (left : List Symbol) → r ≡ Err NoMemory → Reads view answer r left
no_memory view answer r left e = rw e (λ other. absurd (other refl))
