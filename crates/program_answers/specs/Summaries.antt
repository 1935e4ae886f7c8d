-- What `make` writes before the program that it generates runs.
use Rattle.std.specs.Prelude.{ℕ, List, ◌++◌, codes}
use Rattle.std.specs.Fmt.{decimal}
use Rattle.cc_base.specs.declared.kind.Kind.{Kind}
use Rattle.cc_base.specs.declared.kind.Kind.TheVariants.{Safe, Seq, Rtti, Wild}
use Rattle.program_answers.specs.declared.summary.Summary.{Summary}

-- how many pointer types are of a kind
abbrev pub pointers_in : Summary → Kind → ℕ
pointers_in s Safe = s.safe
pointers_in s Seq = s.seq
pointers_in s Rtti = s.rtti
pointers_in s Wild = s.wild

-- its two lines
abbrev pub summary_lines : Summary → List ℕ
summary_lines s =
    codes "text " ++ decimal s.bytes ++ codes "\nkinds " ++ decimal s.safe ++ codes " " ++ decimal s.seq ++ codes " " ++ decimal s.rtti
    ++ codes " " ++ decimal s.wild ++ codes "\n"
