-- Types of one class have cells that agree, byte by byte.
use Rattle.std.proofs.Common.{◌≡◌, ℕ, ◌+◌, ◌-◌, ◌%◌, ◌<◌, Bool, true, false, ◌&&◌, List, length, slice_get, Some, refl, ap, sym, subst, ◌∙◌, ⊎_elim, arith}
use Rattle.std.specs.Prelude.{◌==◌, slice_index_or}
use Rattle.std.proofs.lemmas.Bool.Decides.{nat_tests}
use Rattle.std.proofs.lemmas.Option.{slice_get_within, slice_get-get_or}
use Rattle.std.proofs.Math.Nat.{mod-lt}
use Rattle.cc_base.specs.declared.number.TypeId.{TypeId}
use Rattle.cc_base.specs.declared.number.NodeId.{NodeId}
use Rattle.cc_base.specs.declared.kind.Kind.{Kind}
use Rattle.c_types.specs.Table.{Table, IsComplete}
use Rattle.c_types.specs.Cells.{Cell, raw, pointer, mixed, incomplete, alike, same_type}
use Rattle.c_types.specs.Equality.{physically_equal, cells_of, repeated_cell}
use Rattle.c_types.specs.Flows.{HeldPointer, StandAlike, Correspond, top, inside, IsOfOneClass, CellsAgree}
use Rattle.c_types.specs.Sound.{IsWellFormed}
use Rattle.c_types.proofs.OrderedPointers.{cells_ordered, first_byte}
use Rattle.type_laws.proofs.Relations.{same_id}
use Rattle.type_laws.proofs.Sizes.{equal_counts}
use Rattle.type_laws.proofs.Pointers.{class_own, class_turned, class_twice}
use Rattle.type_laws.proofs.OneClass.{cells-alike, pointer-there, alike-at}

first : (a b : Bool) → (a && b) ≡ true → a ≡ true
first true b h = refl
first false b h = h

second : (a b : Bool) → (a && b) ≡ true → b ≡ true
second true b h = h
second false b h = absurd (cc (h))

module _ (table : Table) (kind : NodeId → Kind) (ok : IsWellFormed table) where
  agree-own : (c : Cell) → CellsAgree table kind c c
  agree-own raw = tt
  agree-own (pointer n t i) = (refl, refl, class_own table kind t)
  agree-own (mixed u i) = (refl, refl)
  agree-own (incomplete t) = refl

  agree-turned : (c d : Cell) → CellsAgree table kind c d → CellsAgree table kind d c
  agree-turned raw raw a = tt
  agree-turned raw (pointer m u j) a = absurd a
  agree-turned raw (mixed u j) a = absurd a
  agree-turned raw (incomplete u) a = absurd a
  agree-turned (pointer n t i) raw a = absurd a
  agree-turned (pointer n t i) (pointer m u j) a = (sym a.0, sym a.1, class_turned table kind t u a.2)
  agree-turned (pointer n t i) (mixed u j) a = absurd a
  agree-turned (pointer n t i) (incomplete u) a = absurd a
  agree-turned (mixed t i) raw a = absurd a
  agree-turned (mixed t i) (pointer m u j) a = absurd a
  agree-turned (mixed t i) (mixed u j) a = (sym a.0, sym a.1)
  agree-turned (mixed t i) (incomplete u) a = absurd a
  agree-turned (incomplete t) raw a = absurd a
  agree-turned (incomplete t) (pointer m u j) a = absurd a
  agree-turned (incomplete t) (mixed u j) a = absurd a
  agree-turned (incomplete t) (incomplete u) a = sym a

  agree-twice : (c d e : Cell) → CellsAgree table kind c d → CellsAgree table kind d e → CellsAgree table kind c e
  agree-twice raw raw e a b = b
  agree-twice raw (pointer m u j) e a b = absurd a
  agree-twice raw (mixed u j) e a b = absurd a
  agree-twice raw (incomplete u) e a b = absurd a
  agree-twice (pointer n t i) raw e a b = absurd a
  agree-twice (pointer n t i) (mixed u j) e a b = absurd a
  agree-twice (pointer n t i) (incomplete u) e a b = absurd a
  agree-twice (pointer n t i) (pointer m u j) raw a b = absurd b
  agree-twice (pointer n t i) (pointer m u j) (pointer l v k) a b = (a.0 ∙ b.0, a.1 ∙ b.1, class_twice table kind ok t u v a.2 b.2)
  agree-twice (pointer n t i) (pointer m u j) (mixed v k) a b = absurd b
  agree-twice (pointer n t i) (pointer m u j) (incomplete v) a b = absurd b
  agree-twice (mixed t i) raw e a b = absurd a
  agree-twice (mixed t i) (pointer m u j) e a b = absurd a
  agree-twice (mixed t i) (incomplete u) e a b = absurd a
  agree-twice (mixed t i) (mixed u j) raw a b = absurd b
  agree-twice (mixed t i) (mixed u j) (pointer l v k) a b = absurd b
  agree-twice (mixed t i) (mixed u j) (mixed v k) a b = (a.0 ∙ b.0, a.1 ∙ b.1)
  agree-twice (mixed t i) (mixed u j) (incomplete v) a b = absurd b
  agree-twice (incomplete t) raw e a b = absurd a
  agree-twice (incomplete t) (pointer m u j) e a b = absurd a
  agree-twice (incomplete t) (mixed u j) e a b = absurd a
  agree-twice (incomplete t) (incomplete u) raw a b = absurd b
  agree-twice (incomplete t) (incomplete u) (pointer l v k) a b = absurd b
  agree-twice (incomplete t) (incomplete u) (mixed v k) a b = absurd b
  agree-twice (incomplete t) (incomplete u) (incomplete v) a b = a ∙ b

  -- what corresponds under two pointers that correspond
  lift : (t u : TypeId) (p q : HeldPointer) → Correspond table (StandAlike table t u) p q → (r s : HeldPointer) → Correspond table (StandAlike table p.to q.to) r s → Correspond table (StandAlike table t u) r s
  lift t u p q h r s (top a b k) = inside p q r s h k
  lift t u p q h r s (inside a b c d k l) = inside a b r s (lift t u p q h a b k) l

  alike-agree : (t u : TypeId) → IsComplete table t → IsComplete table u → IsOfOneClass table kind t u → (i : ℕ) (c d : Cell) → slice_get (cells_of table t) i ≡ Some c → slice_get (cells_of table u) i ≡ Some d
      → alike (physically_equal table) c d ≡ true → CellsAgree table kind c d
  alike-agree t u ct cu one i raw raw e f h = tt
  alike-agree t u ct cu one i raw (pointer m b k) e f h = absurd (cc (h))
  alike-agree t u ct cu one i raw (mixed v k) e f h = absurd (cc (h))
  alike-agree t u ct cu one i raw (incomplete v) e f h = absurd (cc (h))
  alike-agree t u ct cu one i (pointer n a j) raw e f h = absurd (cc (h))
  alike-agree t u ct cu one i (pointer n a j) (mixed v k) e f h = absurd (cc (h))
  alike-agree t u ct cu one i (pointer n a j) (incomplete v) e f h = absurd (cc (h))
  alike-agree t u ct cu one i (mixed v j) raw e f h = absurd (cc (h))
  alike-agree t u ct cu one i (mixed v j) (pointer m b k) e f h = absurd (cc (h))
  alike-agree t u ct cu one i (mixed v j) (incomplete x) e f h = absurd (cc (h))
  alike-agree t u ct cu one i (incomplete v) raw e f h = absurd (cc (h))
  alike-agree t u ct cu one i (incomplete v) (pointer m b k) e f h = absurd (cc (h))
  alike-agree t u ct cu one i (incomplete v) (mixed x k) e f h = absurd (cc (h))
  alike-agree t u ct cu one i (mixed v j) (mixed x k) e f h =
      let s : v.0 ≡ x.0 = same_id v x (first (same_type v x) (j == k) h) in let z : (j == k) ≡ true = second (same_type v x) (j == k) h in let y : j ≡ k = grind (arith, nat_tests) in
      (ap (λ (n : ℕ). let r : TypeId = record { 0 = n } in r) s, y)
  alike-agree t u ct cu one i (incomplete v) (incomplete x) e f h = let s : v.0 ≡ x.0 = same_id v x h in ap (λ (n : ℕ). let r : TypeId = record { 0 = n } in r) s
  alike-agree t u ct cu one i (pointer n a j) (pointer m b k) e f h =
      let same : (j == k) ≡ true = first (j == k) (physically_equal table a b) h in
      let jk : j ≡ k = grind (arith, nat_tests) in
      let f' : slice_get (cells_of table u) (i - j) ≡ Some (pointer m b 0) = ap (λ x. slice_get (cells_of table u) (i - x)) jk ∙ first_byte (cells_of table u) (cells_ordered table ok u) k i m b f in
      let e' : slice_get (cells_of table t) (i - j) ≡ Some (pointer n a 0) = first_byte (cells_of table t) (cells_ordered table ok t) j i n a e in
      let there : Correspond table (StandAlike table t u) (record { node = n; to = a }) (record { node = m; to = b })
      = top (record { node = n; to = a }) (record { node = m; to = b }) (i - j, pointer-there table ok kind t ct (i - j) n a e', pointer-there table ok kind u cu (i - j) m b f') in (
        jk,
        one.kinds (record { node = n; to = a }) (record { node = m; to = b }) there,
        record {
          equal = second (j == k) (physically_equal table a b) h;
          kinds = λ r s x. one.kinds r s (lift t u (record { node = n; to = a }) (record { node = m; to = b }) there r s x);
        },
      )

  -- law e: types of one class have cells that agree, byte by byte
  pub class-cells : (t u : TypeId) → IsComplete table t → IsComplete table u → IsOfOneClass table kind t u → (i : ℕ) (d : Cell) → slice_get (cells_of table u) i ≡ Some d
      → (c : Cell) × (slice_get (cells_of table t) i ≡ Some c) × CellsAgree table kind c d
  class-cells t u ct cu one i d f = ⊎_elim
      (λ h. (c, e, alike-agree t u ct cu one i c d e f (alike-at (physically_equal table) (cells_of table t) (cells_of table u) h i c d e f)))
      (λ h. (d, ap (λ (n : ℕ). slice_get (cells_of table (record { 0 = n })) i) h ∙ f, agree-own d))
      (cells-alike table ok kind t u ct cu one.equal)
    where
      c : Cell
      c = slice_index_or (cells_of table t) i raw

      e : slice_get (cells_of table t) i ≡ Some c
      e = slice_get-get_or (cells_of table t) i raw (let l = slice_get_within (cells_of table u) i d f in let s = equal_counts table ok t u one.equal in omega (arith, l, s))

  repeated-class : (t u : TypeId) → IsComplete table t → IsComplete table u → 0 < length (cells_of table t) → IsOfOneClass table kind t u → (i : ℕ) → CellsAgree table kind (repeated_cell (cells_of table t) i) (repeated_cell (cells_of table u) i)
  repeated-class t u ct cu some one i = of (class-cells t u ct cu one (i % length (cells_of table u)) d e)
    where
      counts : length (cells_of table t) ≡ length (cells_of table u)
      counts = equal_counts table ok t u one.equal

      d : Cell
      d = repeated_cell (cells_of table u) i

      e : slice_get (cells_of table u) (i % length (cells_of table u)) ≡ Some d
      e = slice_get-get_or (cells_of table u) (i % length (cells_of table u)) raw (mod-lt i (let c = counts in omega (arith, c, some)))

      of : ((c : Cell) × (slice_get (cells_of table t) (i % length (cells_of table u)) ≡ Some c) × CellsAgree table kind c d) → CellsAgree table kind (repeated_cell (cells_of table t) i) d
      of x =
          let f : slice_get (cells_of table t) (i % length (cells_of table t)) ≡ Some x.0 = ap (λ (n : ℕ). slice_get (cells_of table t) (i % n)) counts ∙ x.1 in
          let g : slice_get (cells_of table t) (i % length (cells_of table t)) ≡ Some (repeated_cell (cells_of table t) i) = slice_get-get_or (cells_of table t) (i % length (cells_of table t)) raw (mod-lt i some) in
          let s : x.0 ≡ repeated_cell (cells_of table t) i = cc (f, g) in subst (λ (c : Cell). CellsAgree table kind c d) s x.2
