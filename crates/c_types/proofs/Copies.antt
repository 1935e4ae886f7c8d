-- A copy of a table keeps what the table keeps.
use Rattle.std.proofs.Common.{◌≡◌, ◌<◌, List, [], ◌∷◌, length, get_or, map, refl, ap, sym, subst, ◌∙◌, arith}
use Rattle.std.specs.List.{AllZip}
use Rattle.std.proofs.lemmas.List.Elements.{AllZip-get_or}
use Rattle.std.proofs.lemmas.Slice.Zip.{AllZip-long}
use Rattle.cc_base.specs.declared.number.TypeId.{TypeId}
use Rattle.c_types.specs.declared.kept.FieldPlace.{FieldPlace}
use Rattle.c_types.specs.declared.kept.Kept.{Kept}
use Rattle.c_types.specs.Table.{Table}
use Rattle.c_types.specs.Kept.{KeptEntry, KnownShape, AreFirst, IsSound, IsKeptOf, table_of, firsts_of}
use Rattle.c_types.specs.Sound.{IsWellFormed}

-- the two shapes are equal, and what is kept beside them
abbrev pub IsCopied : KeptEntry → KeptEntry → Type 0
IsCopied p q = (q.0 ≡ p.0) × ((q.1.layout ≡ p.1.layout) × (q.1.pointers ≡ p.1.pointers) × (q.1.fields.items ≡ p.1.fields.items) × (q.1.first ≡ p.1.first))

pub same_table : (es fs : List KeptEntry) → AllZip IsCopied es fs → table_of fs ≡ table_of es
same_table [] [] h = refl
same_table [] (q ∷ fs) h = absurd h
same_table (p ∷ es) [] h = absurd h
same_table (p ∷ es) (q ∷ fs) h = λ i. (record { shape = h.0.0 i; members = map (λ (f : FieldPlace). f.ty) (h.0.1.2 i) }) ∷ same_table es fs h.1 i

same_firsts : (es fs : List KeptEntry) → AllZip IsCopied es fs → firsts_of fs ≡ firsts_of es
same_firsts [] [] h = refl
same_firsts [] (q ∷ fs) h = absurd h
same_firsts (p ∷ es) [] h = absurd h
same_firsts (p ∷ es) (q ∷ fs) h = λ i. h.0.1.3 i ∷ same_firsts es fs h.1 i

pub same_known : (xs ys : List KnownShape) → AllZip (λ p q. (q.0 ≡ p.0) × (q.1 ≡ p.1)) xs ys → ys ≡ xs
same_known [] [] h = refl
same_known [] (q ∷ ys) h = absurd h
same_known (p ∷ xs) [] h = absurd h
same_known (p ∷ xs) (q ∷ ys) h = λ i. (h.0.0 i, h.0.1 i) ∷ same_known xs ys h.1 i

kept_copied : (table : Table) (t : TypeId) (k l : Kept) → (l.layout ≡ k.layout) × (l.pointers ≡ k.pointers) × (l.fields.items ≡ k.fields.items) × (l.first ≡ k.first)
    → IsKeptOf table t k → IsKeptOf table t l
kept_copied table t k l h kept = record {
  layout = h.0 ∙ kept.layout;
  pointers = h.1 ∙ kept.pointers;
  offsets = λ i d b.
      ap (λ (fs : List FieldPlace). (get_or fs i d).offset) h.2 ∙ kept.offsets i d (subst (λ (fs : List FieldPlace). i < length fs) h.2 b);
}

pub sound_copied : (es fs : List KeptEntry) (known copied : List KnownShape) → AllZip IsCopied es fs → copied ≡ known → IsSound es known → IsSound fs copied
sound_copied es fs known copied h k s =
    let tables : table_of es ≡ table_of fs = sym (same_table es fs h) in
    record {
      formed = subst (λ (table : Table). IsWellFormed table) tables s.formed;
      kept = λ i d b.
          let c : i < length es = omega (arith, b, AllZip-long IsCopied es fs h) in
          let both = AllZip-get_or IsCopied es fs i d d h c in
          kept_copied (table_of fs) (record { 0 = i }) (get_or es i d).1 (get_or fs i d).1 both.1
          (subst (λ (table : Table). IsKeptOf table (record { 0 = i }) (get_or es i d).1) tables (s.kept i d c));
      first =
          subst (λ (table : Table). AreFirst table (firsts_of fs) copied) tables
          (subst (λ (firsts : List TypeId). AreFirst (table_of es) firsts copied) (sym (same_firsts es fs h))
          (subst (AreFirst (table_of es) (firsts_of es)) (sym k) s.first));
    }
