-- What an operation asks reads what there is, where its operands and its numbers are there.
use Rattle.std.proofs.Common.{◌≡◌, ℕ, suc, ◌<◌, ◌≤◌, Bool, true, false, List, [], ◌∷◌, ◌++◌, Option, None, Some, refl, arith}
use Rattle.std.specs.Prelude.{nat_eq, if◌then◌else◌}
use Rattle.cc_base.specs.declared.fault.Check.{Check}
use Rattle.cc_base.specs.declared.fault.Check.TheVariants as check
use Rattle.cc_base.specs.declared.place.Place.{Place}
use Rattle.cc_base.specs.declared.kind.Kind.{Kind}
use Rattle.cc_base.specs.declared.kind.Kind.TheVariants.{Safe, Seq, Rtti, Wild}
use Rattle.cured_code.specs.Ranges.{Names}
use Rattle.check_forms.specs.declared.slots.PointerSlots.{PointerSlots}
use Rattle.check_forms.specs.declared.slots.Fixed.{Fixed}
use Rattle.check_forms.specs.declared.slots.Distance.{Distance}
use Rattle.check_forms.specs.declared.slots.Distance.TheVariants.{Bytes, Elements}
use Rattle.check_forms.specs.declared.op.WildNumbers.{WildNumbers}
use Rattle.check_forms.specs.declared.op.Reach.{Reach}
use Rattle.check_forms.specs.declared.op.Factor.{Factor}
use Rattle.check_forms.specs.declared.op.Factor.TheVariants.{Any, Signed, Unsigned}
use Rattle.check_forms.specs.declared.op.Conversion.{Conversion}
use Rattle.check_forms.specs.declared.op.Conversion.TheVariants.{Free, Down, Shrink}
use Rattle.check_forms.specs.declared.op.Op.{Op}
use Rattle.check_forms.specs.declared.op.Op.TheVariants.{ReadInteger, ReadPointer, WriteInteger, WritePointer, CopyPlain, CopyPointers, KeepCell, Member, Move, Order, Equate, Call, ReturnPointer, Convert, Allocate, DivideUnsigned, DivideSigned, EnterMain}
use Rattle.check_forms.specs.Conditions.{Condition, IsInPart, IsByteInPart, IsInArea, IsByteInArea, IsNoDeeper, Unless, AreElementsApart, IsAtLeast}
use Rattle.check_forms.specs.Rows.{Asked, asked, home_slot, in_part, in_area, reached, based, factor_asked, near, settled, all_asked, equated, of_one, elements_apart, kept_of, aligned, plain_asked, pointer_asked, member_asked, call_asked, convert_asked, allocated, flat_conditions}
use Rattle.cure_rules.specs.Checks.{Need, need, size_needed, reach_needs, base_needs, aligned_needs, tagged_needs, factor_needs, distance_needs, near_needs, member_needs, apart_needs, call_needs, convert_needs, allocated_needs, numbers_of}
use Rattle.cure_rules.specs.Slots.{Size}
use Rattle.cure_ranges.proofs.Fitting.{PointerFits, DistanceFits, Reads, height, AsksFit, ReadAll, NeedsFit, MovedBy, ConversionFits, OperandsFit}

-- Lists

both : (n : Names) (xs ys : List Asked) → AsksFit n xs → AsksFit n ys → AsksFit n (xs ++ ys)
both n [] ys a b = b
both n (x ∷ xs) ys a b = (a.0, a.1, both n xs ys a.2 b)

front : (c : ℕ) (xs ys : List Need) → NeedsFit c (xs ++ ys) → NeedsFit c xs
front c [] ys h = tt
front c (x ∷ xs) ys h = (h.0, front c xs ys h.1)

pub back : (c : ℕ) (xs ys : List Need) → NeedsFit c (xs ++ ys) → NeedsFit c ys
back c [] ys h = h
back c (x ∷ xs) ys h = back c xs ys h.1

all : (n : Names) (check : Check) (at : Place) (cs : List Condition) → ReadAll n cs → AsksFit n (all_asked check at cs)
all n check at [] h = tt
all n check at (c ∷ cs) h = (h.0, h.1, all n check at cs h.2)

joined : (n : Names) (cs ds : List Condition) → ReadAll n cs → ReadAll n ds → ReadAll n (cs ++ ds)
joined n [] ds a b = b
joined n (c ∷ cs) ds a b = (a.0, a.1, joined n cs ds a.2 b)

pub home : (c : ℕ) (k : Kind) (p : PointerSlots) → PointerFits c p → home_slot k p < c
home c Safe p f = f.first
home c Rtti p f = f.first
home c Seq p f = f.second
home c Wild p f = f.second

module _ (n : Names) where
  -- Sizes

  part : (p : PointerSlots) (size : Fixed) → PointerFits n.slots p → NeedsFit n.slots (size_needed size) → Reads n (in_part p size) × (height (in_part p size) ≡ 0)
  part p size f h = by (nat_eq size.value 1) h
    where
      by : (b : Bool) → NeedsFit n.slots (if b then [] else need Size size ∷ []) → Reads n (if b then IsByteInPart p else IsInPart p size) × (height (if b then IsByteInPart p else IsInPart p size) ≡ 0)
      by true m = (f, refl)
      by false m = ((f, m.0), refl)

  area : (p : PointerSlots) (size : Fixed) → PointerFits n.slots p → NeedsFit n.slots (size_needed size) → Reads n (in_area p size) × (height (in_area p size) ≡ 0)
  area p size f h = by (nat_eq size.value 1) h
    where
      by : (b : Bool) → NeedsFit n.slots (if b then [] else need Size size ∷ []) → Reads n (if b then IsByteInArea p else IsInArea p size) × (height (if b then IsByteInArea p else IsInArea p size) ≡ 0)
      by true m = (f, refl)
      by false m = ((f, m.0), refl)

  low : (m : ℕ) → m ≡ 0 → m ≤ 2
  low m h = omega (arith, h)

  next : (m : ℕ) → m ≡ 0 → suc m ≤ 2
  next m h = omega (arith, h)

  reach : (k : Kind) (p : PointerSlots) (size : Fixed) (at : Place) → PointerFits n.slots p → NeedsFit n.slots (reach_needs k size) → AsksFit n (reached k p size at)
  reach Safe p size at f h = (f.first, omega arith, tt)
  reach Rtti p size at f h = (f.first, omega arith, tt)
  reach Seq p size at f h = let r = part p size f h in (r.0, low (height (in_part p size)) r.1, tt)
  reach Wild p size at f h = let r = area p size f h in (f.second, omega arith, (r.0, low (height (in_area p size)) r.1, tt))

  base : (k : Kind) (p : PointerSlots) (numbers : WildNumbers) (at : Place) → PointerFits n.slots p → NeedsFit n.slots (base_needs k numbers) → AsksFit n (based k p numbers at)
  base Safe p numbers at f h = (f.second, omega arith, tt)
  base Rtti p numbers at f h = (f.second, omega arith, tt)
  base Seq p numbers at f h = (f.second, omega arith, tt)
  base Wild p numbers at f h = ((f.second, h.0), omega arith, tt)

  align : (k : Kind) (p : PointerSlots) (numbers : WildNumbers) (at : Place) → PointerFits n.slots p → NeedsFit n.slots (aligned_needs k numbers) → AsksFit n (aligned k p numbers at)
  align Safe p numbers at f h = tt
  align Rtti p numbers at f h = tt
  align Seq p numbers at f h = tt
  align Wild p numbers at f h = ((f.first, h.0), omega arith, tt)

  plain : (k : Kind) (p : PointerSlots) (size : Fixed) (at : Place) → PointerFits n.slots p → AsksFit n (plain_asked k p size at)
  plain Safe p size at f = tt
  plain Rtti p size at f = tt
  plain Seq p size at f = tt
  plain Wild p size at f = (f, omega arith, tt)

  tagged : (k : Kind) (p : PointerSlots) (numbers : WildNumbers) (at : Place) → PointerFits n.slots p → NeedsFit n.slots (tagged_needs k numbers) → AsksFit n (pointer_asked k p numbers at)
  tagged Safe p numbers at f h = tt
  tagged Rtti p numbers at f h = tt
  tagged Seq p numbers at f h = tt
  tagged Wild p numbers at f h = ((f, h.0), omega arith, tt)

  factors : (x : Factor) (a : ℕ) (at : Place) → a < n.slots → NeedsFit n.slots (factor_needs x) → AsksFit n (factor_asked x a at)
  factors Any a at l h = tt
  factors (Signed least span) a at l h = ((l, h.0, h.1.0), omega arith, tt)
  factors (Unsigned bound) a at l h = ((l, h.0), omega arith, tt)

  distance : (d : Distance) → MovedBy n.slots d → NeedsFit n.slots (distance_needs d) → DistanceFits n.slots d
  distance (Bytes a) m h = m
  distance (Elements a size) m h = (m, h.0)

  settle : (k : Kind) (p : PointerSlots) → PointerFits n.slots p → ReadAll n (settled k p)
  settle Safe p f = tt
  settle Rtti p f = tt
  settle Seq p f = ((f.second, f), omega arith, tt)
  settle Wild p f = ((f.second, f), omega arith, tt)

  pair : (k l : Kind) (p q : PointerSlots) → PointerFits n.slots p → PointerFits n.slots q → ReadAll n (settled k p ++ settled l q)
  pair k l p q f g = joined n (settled k p) (settled l q) (settle k p f) (settle l q g)

  equate : (k l : Kind) (p q : PointerSlots) → PointerFits n.slots p → PointerFits n.slots q → ReadAll n (equated k l p q)
  equate Seq Seq p q f g = ((f, g, ((f.second, f), (g.second, g))), omega arith, tt)
  equate Wild Wild p q f g = ((f, g, ((f.second, f), (g.second, g))), omega arith, tt)
  equate Seq Safe p q f g = pair Seq Safe p q f g
  equate Seq Rtti p q f g = pair Seq Rtti p q f g
  equate Seq Wild p q f g = pair Seq Wild p q f g
  equate Wild Safe p q f g = pair Wild Safe p q f g
  equate Wild Rtti p q f g = pair Wild Rtti p q f g
  equate Wild Seq p q f g = pair Wild Seq p q f g
  equate Safe l p q f g = pair Safe l p q f g
  equate Rtti l p q f g = pair Rtti l p q f g

  ordered : (k l : Kind) (p q : PointerSlots) → PointerFits n.slots p → PointerFits n.slots q → Reads n (of_one k l p q) × (height (of_one k l p q) ≤ 2)
  ordered Seq Seq p q f g = ((f, g), omega arith)
  ordered Wild Wild p q f g = ((f, g), omega arith)
  ordered Seq Safe p q f g = (tt, omega arith)
  ordered Seq Rtti p q f g = (tt, omega arith)
  ordered Seq Wild p q f g = (tt, omega arith)
  ordered Wild Safe p q f g = (tt, omega arith)
  ordered Wild Rtti p q f g = (tt, omega arith)
  ordered Wild Seq p q f g = (tt, omega arith)
  ordered Safe l p q f g = (tt, omega arith)
  ordered Rtti l p q f g = (tt, omega arith)

  apart : (p q : PointerSlots) (x : Option Fixed) → PointerFits n.slots p → PointerFits n.slots q → NeedsFit n.slots (apart_needs x) → ReadAll n (elements_apart p q x)
  apart p q None f g h = tt
  apart p q (Some size) f g h = by (nat_eq size.value 1) h
    where
      by : (b : Bool) → NeedsFit n.slots (if b then [] else need Size size ∷ []) → ReadAll n (if b then [] else AreElementsApart p q size ∷ [])
      by true m = tt
      by false m = ((f, g, m.0), omega arith, tt)

  keeps : (k : Kind) (p q : PointerSlots) (size : Fixed) (at : Place) → PointerFits n.slots p → PointerFits n.slots q → AsksFit n (kept_of k p q size at)
  keeps Safe p q size at f g = tt
  keeps Rtti p q size at f g = tt
  keeps Seq p q size at f g = tt
  keeps Wild p q size at f g = ((f, g.second), omega arith, tt)

  member : (k : Kind) (p : PointerSlots) (size : Fixed) (numbers : WildNumbers) (offset : ℕ) (r : Reach) (at : Place) → PointerFits n.slots p → offset < n.slots
      → NeedsFit n.slots (member_needs k size numbers r) → AsksFit n (member_asked k p size numbers offset r at)
  member Safe p size numbers offset r at f l h = reach Safe p size at f h
  member Rtti p size numbers offset r at f l h = reach Rtti p size at f h
  member Seq p size numbers offset r at f l h = reach Seq p size at f h
  member Wild p size numbers offset r at f l h = ((f.second, h.0), omega arith, ((f, l, h.1.0, h.1.1.0), omega arith, tt))

  calls : (k : Kind) (p : PointerSlots) (signature : Fixed) (at : Place) → PointerFits n.slots p → NeedsFit n.slots (call_needs k signature) → AsksFit n (call_asked k p signature at)
  calls Safe p signature at f h = (f.first, omega arith, (f.first, omega arith, tt))
  calls Rtti p signature at f h = (f.first, omega arith, (f.first, omega arith, tt))
  calls Seq p signature at f h = (f.first, omega arith, (f.first, omega arith, tt))
  calls Wild p signature at f h = ((f, h.0), omega arith, (f.first, omega arith, tt))

  converts : (k : Kind) (p : PointerSlots) (x : Conversion) (at : Place) → PointerFits n.slots p → ConversionFits n x → NeedsFit n.slots (convert_needs k x) → AsksFit n (convert_asked k p x at)
  converts Rtti p (Down node) at f g h = ((f.first, (f.second, g.0, g.1)), omega arith, tt)
  converts Rtti p Free at f g h = tt
  converts Rtti p (Shrink size) at f g h = tt
  converts Seq p (Shrink size) at f g h = let r = part p size f h in ((f, r.0), next (height (in_part p size)) r.1, tt)
  converts Seq p Free at f g h = tt
  converts Seq p (Down node) at f g h = tt
  converts Safe p x at f g h = tt
  converts Wild p x at f g h = tt

  needed_by : (made size : ℕ) (needed : Fixed) (at : Place) → made < n.slots → size < n.slots → (b : Bool) → NeedsFit n.slots (if b then [] else need Size needed ∷ [])
      → AsksFit n (if b then [] else asked check.Bounds at (Unless made (IsAtLeast size needed)) ∷ [])
  needed_by made size needed at l m true h = tt
  needed_by made size needed at l m false h = ((l, (m, h.0)), omega arith, tt)

  allocates : (k : Kind) (made size : ℕ) (needed : Fixed) (at : Place) → made < n.slots → size < n.slots → NeedsFit n.slots (allocated_needs k needed) → AsksFit n (allocated k made size needed at)
  allocates Safe made size needed at l m h = needed_by made size needed at l m (nat_eq needed.value 0) h
  allocates Rtti made size needed at l m h = needed_by made size needed at l m (nat_eq needed.value 0) h
  allocates Seq made size needed at l m h = tt
  allocates Wild made size needed at l m h = tt

  -- all that an operation asks
  pub asks : (op : Op) (k : Kind) (at : Place) → OperandsFit n op → NeedsFit n.slots (numbers_of op k) → AsksFit n (flat_conditions op k at)
  asks (ReadInteger p size) k at o h = both n (reached k p size at) (plain_asked k p size at) (reach k p size at o h) (plain k p size at o)
  asks (ReadPointer p size numbers) k at o h =
      let a = reach_needs k size in let b = aligned_needs k numbers in let c = tagged_needs k numbers in
      let r = front n.slots (a ++ b) c h in
      both n (reached k p size at ++ aligned k p numbers at) (pointer_asked k p numbers at)
      (both n (reached k p size at) (aligned k p numbers at) (reach k p size at o (front n.slots a b r)) (align k p numbers at o (back n.slots a b r)))
      (tagged k p numbers at o (back n.slots (a ++ b) c h))
  asks (WriteInteger p size) k at o h = reach k p size at o h
  asks (WritePointer p size numbers from assignment) k at o h =
      both n (reached k p size at ++ aligned k p numbers at) (asked check.Escape assignment (IsNoDeeper from (home_slot k p)) ∷ [])
      (both n (reached k p size at) (aligned k p numbers at) (reach k p size at o.0 (front n.slots (reach_needs k size) (aligned_needs k numbers) h))
      (align k p numbers at o.0 (back n.slots (reach_needs k size) (aligned_needs k numbers) h)))
      ((o.1, home n.slots k p o.0), omega arith, tt)
  asks (CopyPlain source target other size target_at) k at o h =
      both n (reached k source size at ++ plain_asked k source size at) (reached other target size target_at)
      (both n (reached k source size at) (plain_asked k source size at) (reach k source size at o.0 (front n.slots (reach_needs k size) (reach_needs other size) h))
      (plain k source size at o.0))
      (reach other target size target_at o.1 (back n.slots (reach_needs k size) (reach_needs other size) h))
  asks (CopyPointers source target other size numbers target_at assignment) k at o h =
      let a = reach_needs k size in let b = aligned_needs k numbers in let c = reach_needs other size in let d = aligned_needs other numbers in
      let r1 = front n.slots ((a ++ b) ++ c) d h in let h4 = back n.slots ((a ++ b) ++ c) d h in
      let r2 = front n.slots (a ++ b) c r1 in let h3 = back n.slots (a ++ b) c r1 in
      let h1 = front n.slots a b r2 in let h2 = back n.slots a b r2 in
      let w = reached k source size at in let x = aligned k source numbers at in let y = reached other target size target_at in
      let z = aligned other target numbers target_at in
      both n (((w ++ x) ++ y) ++ z) (kept_of k source target size assignment)
      (both n ((w ++ x) ++ y) z
      (both n (w ++ x) y (both n w x (reach k source size at o.0 h1) (align k source numbers at o.0 h2)) (reach other target size target_at o.1 h3))
      (align other target numbers target_at o.1 h4))
      (keeps k source target size assignment o.0 o.1)
  asks (KeepCell from target) k at o h = (o, omega arith, tt)
  asks (Member p size numbers offset r) k at o h = member k p size numbers offset r at o.0 o.1 h
  asks (Move p way a factor d numbers r) k at o h =
      let w = base_needs k numbers in let x = factor_needs factor in let y = distance_needs d in let z = near_needs r in
      let r1 = front n.slots ((w ++ x) ++ y) z h in let h4 = back n.slots ((w ++ x) ++ y) z h in
      let r2 = front n.slots (w ++ x) y r1 in let h3 = back n.slots (w ++ x) y r1 in
      let h1 = front n.slots w x r2 in let h2 = back n.slots w x r2 in
      both n (based k p numbers at ++ factor_asked factor a at) (near p way d r at ∷ [])
      (both n (based k p numbers at) (factor_asked factor a at) (base k p numbers at o.0 h1) (factors factor a at o.1 h2))
      ((o.0, distance d o.2 h3, h4.0, h4.1.0), omega arith, tt)
  asks (Order p q other numbers x) k at o h =
      let a = base_needs k numbers in let b = base_needs other numbers in let c = apart_needs x in
      let r1 = front n.slots (a ++ b) c h in let h3 = back n.slots (a ++ b) c h in
      let t = ordered k other p q o.0 o.1 in
      both n (based k p numbers at ++ based other q numbers at) (all_asked check.Same at (of_one k other p q ∷ elements_apart p q x))
      (both n (based k p numbers at) (based other q numbers at) (base k p numbers at o.0 (front n.slots a b r1)) (base other q numbers at o.1 (back n.slots a b r1)))
      (t.0, t.1, all n check.Same at (elements_apart p q x) (apart p q x o.0 o.1 h3))
  asks (Equate p q other) k at o h = all n check.Same at (equated k other p q) (equate k other p q o.0 o.1)
  asks (Call p signature) k at o h = calls k p signature at o h
  asks (ReturnPointer from) k at o h = (o, omega arith, tt)
  asks (Convert p x) k at o h = converts k p x at o.0 o.1 h
  asks (Allocate made size needed) k at o h = allocates k made size needed at o.0 o.1 h
  asks (DivideUnsigned a b) k at o h = (o.1, omega arith, tt)
  asks (DivideSigned a b least minus_one) k at o h = (o.1, omega arith, ((o.0, o.1, h.0, h.1.0), omega arith, tt))
  asks (EnterMain address) k at o h = (o, omega arith, tt)
