-- A look-up among named files is a look-up in the map that they come from.
use Rattle.std.proofs.Common.{◌≡◌, ℕ, List, [], ◌∷◌, Bool, true, false, cond, refl}
use Rattle.std.specs.Prelude.{Option, Some, String, Vec, map}
use Rattle.std.specs.declared.alloc.Global.{Global}
use Rattle.std.specs.String.{string_bytes}
use Rattle.std.specs.Str.{bytes_eq}
use Rattle.std.specs.Option.{option_map}
use Rattle.std.specs.Ordering.{nat_cmp}
use Rattle.std.specs.Cmp.Lexicographic.{slice_cmp}
use Rattle.std.specs.Map.{lookup}
use Rattle.std.specs.BTreeMap.{is_at}
use Rattle.std.proofs.lemmas.Map.Text.{is_eq-slice_cmp}
use Rattle.cc_io.specs.Outside.{file_of}

cond_items : (b : Bool) (bytes : Vec ℕ Global) (there : Option (List ℕ)) (rest : Option (Vec ℕ Global))
    → there ≡ option_map (λ v. v.items) rest → cond b (Some bytes.items) there ≡ option_map (λ v. v.items) (cond b (Some bytes) rest)
cond_items true bytes there rest same = refl
cond_items false bytes there rest same = same

pub file_of-named : (entries : List (String Global × Vec ℕ Global)) (name : List ℕ)
    → file_of (map (λ e. (string_bytes e.0, e.1.items)) entries) name ≡ option_map (λ v. v.items) (lookup (is_at (λ k. slice_cmp nat_cmp name (string_bytes k))) entries)
file_of-named [] name = refl
file_of-named (e ∷ entries) name =
    rw (is_eq-slice_cmp name (string_bytes e.0)) (cond_items (bytes_eq name (string_bytes e.0)) e.1 _ _ (file_of-named entries name))
