-- A call begins with its arguments: each is stored in its variable, and the facts hold for the call.
use Rattle.std.proofs.Common.{◌≡◌, ℕ, suc, ◌≤◌, ◌⊎◌, ℤ, true, List, [], ◌∷◌, ◌++◌, map, length, nat_le, slice_get, Some, refl, ap, sym, subst, ◌∙◌, ⊎_elim, arith}
use Rattle.std.specs.Prelude.{⊤}
use Rattle.std.proofs.lemmas.Bool.Decides.{nat_tests}
use Rattle.cc_base.specs.declared.number.TypeId.{TypeId}
use Rattle.cc_base.specs.declared.number.NodeId.{NodeId}
use Rattle.cc_base.specs.declared.kind.Kind.{Kind}
use Rattle.cc_base.specs.declared.kind.Kind.TheVariants.{Safe, Wild}
use Rattle.kind_sites.specs.declared.site.Site.{Site}
use Rattle.c_types.specs.declared.shape.TypeShape.{TypeShape}
use Rattle.c_types.specs.declared.shape.TypeShape.TheVariants as shape
use Rattle.c_types.specs.Table.{shape_at}
use Rattle.c_types.specs.Sound.{IsWellFormed}
use Rattle.integers.specs.Arithmetic.{IntegerType}
use Rattle.src_mem.specs.Pointers.{Pointer, Null, Number, At, Function, Value, Integer, Address}
use Rattle.src_mem.specs.Memory.{Object, Memory, Planned, new_variable, depth_of, depth_of_object}
use Rattle.src_mem.specs.State.{State, Setting}
use Rattle.src_mem.specs.Checks.{Outlives, holds}
use Rattle.src_mem.specs.Primitives.{with_frame}
use Rattle.src_mem.specs.Uses.{store_shape, store, home, store_arguments, enter_with}
use Rattle.src_mem.specs.Outlines.{Outline, Life, LivesAt, outline, life, outlines_of, lives_of}
use Rattle.src_mem.specs.Facts.{Reaches, IsHeldIn, IsMade, IsPlaceIn, IsSoundAt}
use Rattle.src_mem.specs.Laws.{Gives}
use Rattle.src_mem.proofs.Outlines.{mapped-from}
use Rattle.src_mem.proofs.Right.{pointer_size, safe≢wild}
use Rattle.src_mem.proofs.CallsRight.{integer_size}
use Rattle.facts_kept.specs.Kept.{IsKept, IsLater, IsVariable, IsArgumentOf, AreArgumentsOf, HasEntered}
use Rattle.facts_kept.proofs.Places.{reaches-more}
use Rattle.facts_kept.proofs.Later.{later-same, later-twice, held-later}
use Rattle.facts_kept.proofs.Moments.{kept-sound}
use Rattle.facts_kept.proofs.Homes.{home-place, home-room}
use Rattle.facts_kept.proofs.Writing.{gives-stored, gives-stored_tagged, gives-stored_integer, gives-stored_integer_tagged}
use Rattle.facts_kept.proofs.Giving.{gives-from, gives-more}
use Rattle.facts_kept.proofs.Frames.{gives-entered}

depth-most : (objects : List Object) (depth : ℕ) (q : Pointer) → Reaches (map life objects) depth q → depth_of objects q ≤ depth
depth-most objects depth Null r = omega arith
depth-most objects depth (Number n) r = omega arith
depth-most objects depth (At l) r =
    let x = mapped-from life objects l.object r.life r.found in
    let e : depth_of_object (slice_get objects l.object) ≡ r.life.depth = ap depth_of_object x.1 ∙ ap (λ (z : Life). z.depth) x.2 in
    let o = r.older in omega (arith, e, o)
depth-most objects depth (Function f) r = omega arith

le-true : (a b : ℕ) → a ≤ b → nat_le a b ≡ true
le-true a b h = grind (arith, nat_tests)

module _ (w : Setting) (sound : IsWellFormed w.table) (sites : List Site) (depth : ℕ) where
  -- the objects from number n on are these variables of the call
  HaveHomes : List Outline → List Life → ℕ → List Planned → Type 0
  HaveHomes outlines lives n [] = ⊤
  HaveHomes outlines lives n (x ∷ xs) =
      (slice_get outlines n ≡ Some (outline (new_variable w.table (suc depth) x))) × LivesAt lives (suc depth) n × HaveHomes outlines lives (suc n) xs

  behind : (o : Outline) (l : Life) (outlines : List Outline) (lives : List Life) (n : ℕ) (xs : List Planned) → HaveHomes outlines lives n xs
      → HaveHomes (o ∷ outlines) (l ∷ lives) (suc n) xs
  unfolding HaveHomes
  behind o l outlines lives n [] h = tt
  behind o l outlines lives n (x ∷ xs) h =
      (h.0, record { life = h.1.life; found = h.1.found; live = h.1.live; older = h.1.older }, behind o l outlines lives (suc n) xs h.2)

  made : (xs : List Planned)
      → HaveHomes (map outline (map (new_variable w.table (suc depth)) xs)) (map life (map (new_variable w.table (suc depth)) xs)) 0 xs
  unfolding HaveHomes
  made [] = tt
  made (x ∷ xs) = (
    refl,
    record { life = life (new_variable w.table (suc depth) x); found = refl; live = refl; older = omega arith },
    behind (outline (new_variable w.table (suc depth) x)) (life (new_variable w.table (suc depth) x))
        (map outline (map (new_variable w.table (suc depth)) xs))
        (map life (map (new_variable w.table (suc depth)) xs)) 0 xs (made xs),
  )

  made_behind : (objects : List Object) (xs : List Planned)
      → HaveHomes (map outline (objects ++ map (new_variable w.table (suc depth)) xs))
      (map life (objects ++ map (new_variable w.table (suc depth)) xs)) (length objects) xs
  made_behind [] xs = made xs
  made_behind (o ∷ objects) xs = behind (outline o) (life o) (map outline (objects ++ map (new_variable w.table (suc depth)) xs))
      (map life (objects ++ map (new_variable w.table (suc depth)) xs)) (length objects) xs (made_behind objects xs)

  -- One argument

  module _ (s : State) (facts : IsSoundAt w sites s.memory (suc depth)) (n : ℕ) (x : Planned) (is : IsVariable w x)
      (found : slice_get (outlines_of s.memory) n ≡ Some (outline (new_variable w.table (suc depth) x)))
      (lives : LivesAt (lives_of s.memory) (suc depth) n) where
    Stored : Kind → Value → Type 0
    Stored k v = Gives (store w k x.type (home w.table n x.type) v s) (λ a r. IsKept w sites s.memory r.memory)

    place : (k : Kind) → w.kind x.node ≡ k → IsPlaceIn w s.memory (suc depth) k x.type (home w.table n x.type)
    place k e =
        subst (λ y. IsPlaceIn w s.memory (suc depth) y x.type (home w.table n x.type)) e
        (home-place w sound s.memory n (suc depth) (suc depth) x is.complete is.plain found lives)

    -- what the caller holds outlives the call's variables
    escapes : (q : Pointer) → Reaches (lives_of s.memory) depth q → holds w s.memory (Outlives (home w.table n x.type) q) ≡ true
    escapes q r =
        let o = mapped-from outline s.memory.objects n (outline (new_variable w.table (suc depth) x)) found in
        let d : depth_of_object (slice_get s.memory.objects n) ≡ suc depth = ap depth_of_object o.1 ∙ ap (λ (z : Outline). z.depth) o.2 in
        let m = depth-most s.memory.objects depth q r in
        le-true (depth_of s.memory.objects q) (depth_of_object (slice_get s.memory.objects n)) (omega (arith, d, m))

    by-kind : (v : Value) → ((k : Kind) → w.kind x.node ≡ k → (k ≡ Safe) ⊎ (k ≡ Wild) → Stored k v) → Stored (w.kind x.node) v
    by-kind v h = h (w.kind x.node) refl is.plain

    pub gives-pointer_argument : (m : NodeId) (u : TypeId) (q : Pointer) → shape_at w.table x.type ≡ shape.Pointer m u
        → IsHeldIn w s.memory depth (w.kind m) u q → IsMade sites q
        → Gives (store w (w.kind x.node) x.type (home w.table n x.type) (Address q) s) (λ a r. IsKept w sites s.memory r.memory)
    unfolding Stored
    gives-pointer_argument m u q e held told = by-kind (Address q) go
      where
        deeper : IsHeldIn w s.memory (suc depth) (w.kind m) u q
        deeper =
            record {
              value = held.value;
              reaches = reaches-more w sound (outlines_of s.memory) (lives_of s.memory) depth (suc depth) q
                  (omega arith) held.reaches;
            }

        stored : (k : Kind) → w.kind x.node ≡ k → (k ≡ Safe) ⊎ (k ≡ Wild)
            → Gives (store_shape k (shape.Pointer m u) (home w.table n x.type) (Address q) s) (λ a r. IsKept w sites s.memory r.memory)
        stored k f p = ⊎_elim
            (λ g. subst
            (λ y. Gives (store_shape y (shape.Pointer m u) (home w.table n x.type) (Address q) s) (λ a r. IsKept w sites s.memory r.memory))
            (sym g)
            (gives-stored w sound sites x.type u m e s (suc depth) facts.objects q deeper told Safe safe≢wild (home w.table n x.type)
            (place Safe (f ∙ g)) (escapes q held.reaches)))
            (λ g. subst
            (λ y. Gives (store_shape y (shape.Pointer m u) (home w.table n x.type) (Address q) s) (λ a r. IsKept w sites s.memory r.memory))
            (sym g)
            (gives-stored_tagged w sound sites x.type u m e s (suc depth) facts.objects q deeper told x.node is.spreads (f ∙ g)
            (home w.table n x.type) (place Wild (f ∙ g)) (
              home-room w sound s.memory n (suc depth) 8 x found (let z = pointer_size w.table x.type m u e in omega (arith, z)),
              (refl, (escapes q held.reaches, tt)),
            ))) p

        go : (k : Kind) → w.kind x.node ≡ k → (k ≡ Safe) ⊎ (k ≡ Wild) → Stored k (Address q)
        go k f p =
            subst (λ sh. Gives (store_shape k sh (home w.table n x.type) (Address q) s) (λ a r. IsKept w sites s.memory r.memory)) (sym e)
            (stored k f p)

    pub gives-integer_argument : (i : IntegerType) (z : ℤ) → shape_at w.table x.type ≡ shape.Integer i.bytes i.signed
        → Gives (store w (w.kind x.node) x.type (home w.table n x.type) (Integer z) s) (λ a r. IsKept w sites s.memory r.memory)
    unfolding Stored
    gives-integer_argument i z e = by-kind (Integer z) go
      where
        stored : (k : Kind) → w.kind x.node ≡ k → (k ≡ Safe) ⊎ (k ≡ Wild)
            → Gives (store_shape k (shape.Integer i.bytes i.signed) (home w.table n x.type) (Integer z) s) (λ a r. IsKept w sites s.memory r.memory)
        stored k f p = ⊎_elim
            (λ g. subst
            (λ y. Gives (store_shape y (shape.Integer i.bytes i.signed) (home w.table n x.type) (Integer z) s)
            (λ a r. IsKept w sites s.memory r.memory))
            (sym g)
            (gives-stored_integer w sound sites x.type i e s (suc depth) facts.objects z Safe safe≢wild (home w.table n x.type) facts.outlines
            (place Safe (f ∙ g))))
            (λ g. subst
            (λ y. Gives (store_shape y (shape.Integer i.bytes i.signed) (home w.table n x.type) (Integer z) s)
            (λ a r. IsKept w sites s.memory r.memory))
            (sym g)
            (gives-stored_integer_tagged w sound sites x.type i e s (suc depth) facts.objects z (home w.table n x.type) (place Wild (f ∙ g))
            (home-room w sound s.memory n (suc depth) i.bytes x found
            (let y = integer_size w.table x.type i.bytes i.signed e in omega (arith, y))))) p

        go : (k : Kind) → w.kind x.node ≡ k → (k ≡ Safe) ⊎ (k ≡ Wild) → Stored k (Integer z)
        go k f p =
            subst (λ sh. Gives (store_shape k sh (home w.table n x.type) (Integer z) s) (λ a r. IsKept w sites s.memory r.memory)) (sym e)
            (stored k f p)

    gives-argument : (v : Value) (sh : TypeShape) → shape_at w.table x.type ≡ sh → IsArgumentOf w sites s.memory depth sh v
        → Gives (store w (w.kind x.node) x.type (home w.table n x.type) v s) (λ a r. IsKept w sites s.memory r.memory)
    gives-argument (Integer z) (shape.Integer bytes signed) e h = gives-integer_argument (record { bytes = bytes; signed = signed }) z e
    gives-argument (Address q) (shape.Pointer m u) e h = gives-pointer_argument m u q e h.0 h.1
    gives-argument (Address q) (shape.Integer bytes signed) e h = absurd h
    gives-argument (Integer z) (shape.Pointer m u) e h = absurd h
    gives-argument v shape.Void e h = absurd h
    gives-argument v (shape.Array a k) e h = absurd h
    gives-argument v (shape.Function ps r) e h = absurd h
    gives-argument v (shape.Struct tag) e h = absurd h
    gives-argument v (shape.Union tag) e h = absurd h

  -- All of them

  argument-later : (old new : Memory) → IsLater depth old.objects new.objects → (sh : TypeShape) (v : Value) → IsArgumentOf w sites old depth sh v
      → IsArgumentOf w sites new depth sh v
  argument-later old new l (shape.Integer bytes signed) (Integer z) h = h
  argument-later old new l (shape.Pointer m u) (Address q) h = (held-later w depth old.objects new.objects (w.kind m) u q l h.0, h.1)
  argument-later old new l (shape.Integer bytes signed) (Address q) h = absurd h
  argument-later old new l (shape.Pointer m u) (Integer z) h = absurd h
  argument-later old new l shape.Void v h = absurd h
  argument-later old new l (shape.Array a k) v h = absurd h
  argument-later old new l (shape.Function ps r) v h = absurd h
  argument-later old new l (shape.Struct tag) v h = absurd h
  argument-later old new l (shape.Union tag) v h = absurd h

  arguments-later : (old new : Memory) → IsLater depth old.objects new.objects → (xs : List Planned) (vs : List Value)
      → AreArgumentsOf w sites old depth xs vs → AreArgumentsOf w sites new depth xs vs
  arguments-later old new l xs [] h = tt
  arguments-later old new l [] (v ∷ vs) h = absurd h
  arguments-later old new l (x ∷ xs) (v ∷ vs) h = (argument-later old new l (shape_at w.table x.type) v h.0, arguments-later old new l xs vs h.1)

  gives-arguments : (n : ℕ) (xs : List Planned) (vs : List Value) (s : State) → IsSoundAt w sites s.memory (suc depth)
      → ((j : ℕ) (x : Planned) → slice_get xs j ≡ Some x → IsVariable w x)
      → HaveHomes (outlines_of s.memory) (lives_of s.memory) n xs → AreArgumentsOf w sites s.memory depth xs vs
      → Gives (store_arguments w n xs vs s) (λ a r. IsKept w sites s.memory r.memory)
  unfolding HaveHomes
  gives-arguments n xs [] s facts are homes h = record { sound = facts.objects; outlines = refl; lives = refl }
  gives-arguments n [] (v ∷ vs) s facts are homes h = absurd h
  gives-arguments n (x ∷ xs) (v ∷ vs) s facts are homes h =
      gives-from (λ a r. IsKept w sites s.memory r.memory) (λ a r. IsKept w sites s.memory r.memory)
      (store w (w.kind x.node) x.type (home w.table n x.type) v s) (λ a. store_arguments w (suc n) xs vs)
      (gives-argument s facts n x (are 0 x refl) homes.0 homes.1 v (shape_at w.table x.type) refl h.0)
      (λ a r k. gives-more (λ b t. IsKept w sites r.memory t.memory) (λ b t. IsKept w sites s.memory t.memory) (store_arguments w (suc n) xs vs r)
      (gives-arguments (suc n) xs vs r (kept-sound w sites (suc depth) s.memory r.memory facts k) (λ j y e. are (suc j) y e)
      (subst (λ ls. HaveHomes (outlines_of r.memory) ls (suc n) xs) (sym k.lives)
      (subst (λ os. HaveHomes os (lives_of s.memory) (suc n) xs) (sym k.outlines) homes.2))
      (arguments-later s.memory r.memory (later-same depth s.memory.objects r.memory.objects k.outlines k.lives) xs vs h.1))
      (λ b t j. record { sound = j.sound; outlines = j.outlines ∙ k.outlines; lives = j.lives ∙ k.lives }))

  -- a call is entered with its arguments
  pub gives-called : (f : ℕ) (variables : List Planned) (arguments : List Value) (s : State)
      → ((j : ℕ) (x : Planned) → slice_get variables j ≡ Some x → IsVariable w x) → IsSoundAt w sites s.memory depth
      → AreArgumentsOf w sites s.memory depth variables arguments
      → Gives (enter_with w (suc depth) f variables arguments s) (λ x r. HasEntered w sites depth variables s.memory r.memory)
  gives-called f variables arguments s are facts h =
      let entered = gives-entered w sound sites depth f variables s are facts in
      gives-more (λ a t. IsKept w sites (after s).memory t.memory) (λ a t. HasEntered w sites depth variables s.memory t.memory)
      (store_arguments w (length s.memory.objects) variables arguments (after s))
      (gives-arguments (length s.memory.objects) variables arguments (after s) entered.sound are (made_behind s.memory.objects variables)
      (arguments-later s.memory (after s).memory entered.later variables arguments h))
      (λ a t k. record {
        outlines = k.outlines ∙ entered.outlines;
        lives = k.lives ∙ entered.lives;
        later =
            later-twice depth depth s.memory.objects (after s).memory.objects t.memory.objects (omega arith) entered.later
            (later-same depth (after s).memory.objects t.memory.objects k.outlines k.lives);
        sound = kept-sound w sites (suc depth) (after s).memory t.memory entered.sound k;
      })
    where
      after : State → State
      after s = with_frame w (suc depth) variables (record s { entered = s.entered ++ f ∷ [] })
