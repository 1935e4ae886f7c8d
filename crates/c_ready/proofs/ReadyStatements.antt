-- What is well typed is ready: declarations and statements.
use Rattle.std.specs.List.{All, Contains}
use Rattle.std.proofs.Common.{◌≡◌, ◌⊎◌, ℕ, ◌<◌, ℤ, Bool, true, false, ◌==◌, List, [], ◌∷◌, ◌++◌, Option, Some, None, refl, ap, sym, subst, ◌∙◌, inl, inr, arith, rules, if◌then◌else◌, pos, nat_lt, ◌||◌, ◌^◌, ◌-◌, negsuc}
use Rattle.std.proofs.lemmas.List.Elements.{All-nil, All-cons, All-head, All-tail}
use Rattle.std.proofs.lemmas.Bool.Decides.{nat_tests}
use Rattle.std.proofs.lemmas.Option.{none-some}
use Rattle.cc_base.specs.declared.place.Place.{Place}
use Rattle.cc_base.specs.declared.number.NodeId.{NodeId}
use Rattle.cc_base.specs.declared.number.TypeId.{TypeId}
use Rattle.integers.specs.Arithmetic.{IntegerType, converted, bits_of}
use Rattle.integers.specs.Words.{residue, signed_of, as_signed, as_unsigned}
use Rattle.integers.proofs.WordLaws.{residue-below, residue-small, residue-twice}
use Rattle.c_types.specs.declared.shape.TypeShape.{TypeShape}
use Rattle.c_types.specs.declared.shape.TypeShape.TheVariants.{Void, Integer, Pointer, Array, Function, Struct, Union}
use Rattle.c_types.specs.Table.{IsType, shape_at}
use Rattle.c_tree.specs.declared.leaf.Identifier.{Identifier}
use Rattle.c_tree.specs.declared.typed_word.Home.{Home}
use Rattle.c_tree.specs.declared.typed_word.Home.TheVariants as home
use Rattle.c_tree.specs.TypedTree as typed
use Rattle.c_tree.specs.TypedTree.{TypedExpr, TypedSpecifiers, TypedForm, TypedInitialiser, TypedDeclarator, TypedInitDeclarators, TypedDeclaration, TypedStatement, TypedBlockItems}
use Rattle.c_tree.specs.TypedParts.{type_of, specified_type, Name, made_by, made_by_specifiers, made_by_form, made_by_parts, made_by_stars, home_of_form, name_of_form, made_by_initialiser, made_by_init_declarators, made_by_declaration, made_by_optional, made_by_statement, made_by_block_items}
use Rattle.c_typing.specs.Walks.{outermost_of}
use Rattle.c_typing.specs.declared.declared.Declared.{Declared}
use Rattle.c_typing.specs.Shapes.{is_void_shape, IsVoid}
use Rattle.c_typing.specs.Scopes as scopes
use Rattle.c_typing.specs.Scopes.{Scopes, entry_of}
use Rattle.c_typing.specs.Conversions.{IsPlain}
use Rattle.c_typing.specs.Declarators.{Outermost, Written, name_bytes}
use Rattle.c_typing.specs.Typing.{IsTyped, AreSpecifiers, AreAlone}
use Rattle.c_unit_typing.specs.Units as units
use Rattle.c_unit_typing.specs.Units.{with_scopes, Storage, IsDeclarator, IsDefinedOnce, IsStaticInitialised, IsInitialised, AreDeclarators, IsDeclaration, Around, in_a_loop, in_a_switch, IsDropped, IsTested, IsTestedOrNone, IsReturned, entering_known, leaving_known, IsLabel, IsStatement, AreBlockItems, storage_of, is_linked_home}
use Rattle.c_unit_typing.specs.Initialisers.{is_among, is_char_array, size_given}
use Rattle.src_machine.specs.Names.{declarators_in_declaration, declarators_in_statement, declarators_in_items}
use Rattle.c_ready.specs.Ready.{HasObject, IsReadyLabel}
use Rattle.c_ready.specs.Ready
use Rattle.c_ready.proofs.Contexts.{stage, before_main, IsReadyInitialiser, IsReadyHome, AreReadyDeclarators, IsReadyDeclaration, IsReadyOptional, IsReadyTest, IsReadyTestOrNone, IsReadyReturn, IsReadyStatement, AreReadyBlockItems, Context, unread, IsWhole, IsReady, AreReadySpecifiers, IsReadyForm}
use Rattle.c_ready.proofs.Walked.{same-outer}
use Rattle.c_ready.proofs.Walked
use Rattle.c_ready.proofs.Typedefs.{unless_typedef, declarators_listed, declared-same, alone-none}
use Rattle.c_ready.proofs.Suits.{Suits, plain-suits, droppable-suits, operand-suits, converted-suits, integer-from}
use Rattle.c_ready.proofs.ReadyParts.{Known, values, at-unread, IsMade, AreMade, ml, mr, mu, form-in, specified-in}
use Rattle.c_ready.proofs.ReadyTrees.{value-ready, form-ready, specifiers-ready}
use Rattle.c_ready.proofs.BeforeMain.{initialiser-before}
use Rattle.c_ready.proofs.ReadyUnits.{In, Fixed, IsGrown, Step, grown-same, both-grown, last-left, none, joins, joins-plain, gives, ends, walks, blocks, init-kept, init-ready}
use Rattle.c_ready.proofs.ReadyNames.{name-step}
use Rattle.c_ready.proofs.Basics.{some-same, no_true, all-left, all-right}

power-some : (n : ℕ) → 0 < 2 ^ n
power-some n = search rules

back : (m r : ℕ) → r < m → residue (negsuc (m - 1 - r)) m ≡ r
back m r h = let e = residue-small (m - 1 - r) m (omega (arith, h)) in omega (arith, e, h)

signed_back : (bits r : ℕ) → r < 2 ^ bits → residue (signed_of bits r) (2 ^ bits) ≡ r
signed_back bits r h = by (nat_lt r (2 ^ (bits - 1)))
  where
    by : (b : Bool) → residue (if b then pos r else negsuc (2 ^ bits - 1 - r)) (2 ^ bits) ≡ r
    by true = residue-small r (2 ^ bits) h
    by false = back (2 ^ bits) r h

converted-twice : (i : IntegerType) (z : ℤ) → converted i (converted i z) ≡ converted i z
converted-twice i z = by i.signed
  where
    below : residue z (2 ^ bits_of i) < 2 ^ bits_of i
    below = residue-below z (2 ^ bits_of i) (power-some (bits_of i))

    by : (s : Bool)
        → (if s then as_signed (bits_of i) (if s then as_signed (bits_of i) z else as_unsigned (bits_of i) z) else as_unsigned (bits_of i)
        (if s then as_signed (bits_of i) z else as_unsigned (bits_of i) z))
        ≡ (if s then as_signed (bits_of i) z else as_unsigned (bits_of i) z)
    by true = ap (λ (r : ℕ). signed_of (bits_of i) r) (signed_back (bits_of i) (residue z (2 ^ bits_of i)) below)
    by false = ap (λ (r : ℕ). pos r) (residue-twice z (2 ^ bits_of i) (power-some (bits_of i)))

-- Declarators

form-name : (k : Context) (form : TypedForm) (t : TypeId) (id : Identifier) → name_of_form form ≡ Some id → AreMade k (made_by_form form t)
    → IsMade k (Name id (home_of_form form) t)
form-name k (typed.Form stars (typed.Names name home) parts) t id q m =
    subst (λ (x : Identifier). IsMade k (Name x home t)) (some-same name id q)
    (All-head (IsMade k) (Name name home t) []
    (mr k (made_by_stars stars) (Name name home t ∷ []) (ml k (made_by_stars stars ++ (Name name home t ∷ [])) (made_by_parts parts) m)))
form-name k (typed.Form stars typed.Unnamed parts) t id q m = absurd (none-some id q)
form-name k (typed.Form stars (typed.Nested at form) parts) t id q m =
    form-name k form t id q
    (mr k (made_by_stars stars) (made_by_form form t) (ml k (made_by_stars stars ++ made_by_form form t) (made_by_parts parts) m))

or-cases : (a b : Bool) → (a || b) ≡ true → (a ≡ true) ⊎ (b ≡ true)
or-cases true b h = inl refl
or-cases false b h = inr h

among-all : (P : NodeId → Type 0) (homes : List NodeId) (h : NodeId) → All P homes → is_among homes h ≡ true → P h
among-all P [] h a q = no_true q
among-all P (n ∷ ns) h a q = by (or-cases (n.0 == h.0) (is_among ns h) q) (λ g. among-all P ns h (All-tail P n ns a) g)
  where
    eq_from : (x y : ℕ) → (x == y) ≡ true → x ≡ y
    eq_from x y g = grind (arith, nat_tests)

    by : ((n.0 == h.0) ≡ true) ⊎ (is_among ns h ≡ true) → (is_among ns h ≡ true → P h) → P h
    by (inl g) more = subst P (ap (λ (x : ℕ). record { 0 = x }) (eq_from n.0 h.0 g)) (All-head P n ns a)
    by (inr g) more = more g

module _ (k : Context) (f : Fixed k) where
  pub declarator-step : (file : Bool) → (file ≡ false → k.file ≡ false)
      → (storage : Storage) (base : TypeId) (o : Outermost) (form : TypedForm) (t : TypeId) (m m' : units.Known) → IsType k.table base
      → IsDeclarator k.table file storage base o form t m m'
      → Step k m m' (made_by_form form t) (unless_typedef storage (typed.Declares form t))
      (IsReadyForm (unread k) form × IsType k.table t × IsReadyHome k (home_of_form form) t)
  declarator-step file q storage base o form t m m' b h =
      let n = with_scopes m h.inside in
      let first = walks k f (made_by_form form t) m h.inside (Walked.form-kept k.table (Known k) (values k) form m.scopes h.inside h.parts)
      (λ a made. form-ready (unread k) f.formed refl form t m.scopes h.inside h.parts (at-unread k m.scopes h.inside a)
      (mu k (made_by_form form t) made)) in
      let second = name-step k f file q storage (typed.Declares form t) h.name t (home_of_form form) n m'
      (record { named = h.named; type = refl; home = refl }) h.declares in
      record {
        grown = both-grown first.grown second.grown;
        ready = λ i l made told.
            let x = first.ready i (last-left k n m' second.grown l) made (All-nil (Contains k.declarators)) in
            let y = second.ready x.1 l (All-cons (IsMade k) (Name h.name (home_of_form form) t) [] (form-name k form t h.name h.named made)
            (All-nil (IsMade k))) told in
            ((x.0, form-in k.table h.inside form o base t b h.type, y.0), y.1);
      }

  -- what lives as long as the program runs before `main`
  static-before : (h : NodeId) (t : TypeId) (m m' : units.Known) (name : scopes.Name) (i : TypedInitialiser)
      → IsStaticInitialised k.table m h name i m'
      → Step k m m' [] [] (IsReadyInitialiser k t i → IsReadyInitialiser (before_main k) t i)
  static-before h t m m' name i g = record {
    grown = defined-grown (is_linked_home (entry_of m.linked name) h) g.1;
    ready = λ q l a d. (
      (λ r. initialiser-before k f.runs m.statics
          (λ x among u v. let s = among-all (λ n. (t : TypeId) × Contains k.statics (n, t)) m.statics x q.statics among in f.apart x s.0 u s.1 v) t i
          g.0 r),
      defined-in (is_linked_home (entry_of m.linked name) h) g.1 q,
    );
  }
    where
      defined-grown : (b : Bool) → IsDefinedOnce b name m m' → IsGrown m m'
      defined-grown true x = let d = x.1 in record {
        stays = same-outer m.scopes m'.scopes (ap (λ (q : units.Known). q.scopes) d);
        linked =
            λ other y z. subst (λ (es : List (scopes.Name × Declared)). entry_of es other ≡ Some y) (sym (ap (λ (q : units.Known). q.linked) d)) z;
      }
      defined-grown false x = grown-same m m' x

      defined-in : (b : Bool) → IsDefinedOnce b name m m' → In k m → In k m'
      defined-in true x q = subst (In k) (sym x.1) (record { names = q.names; defined = q.defined; linked = q.linked; statics = q.statics })
      defined-in false x q = subst (In k) (sym x) q

  initialised-step : (h : Home) (t : TypeId) (m m' : units.Known) (name : scopes.Name) (i : TypedInitialiser) → IsInitialised k.table h m name i m'
      → Step k m m' [] [] ((IsReadyInitialiser k t i → Ready.IsReadyInitialiser (Ready.initialised_in h (stage k) (stage (before_main k))) t i)
      × HasObject h)
  initialised-step (home.Local n) t m m' name i g = gives k [] m m' (λ u. ((λ r. r), tt)) (none k m m' g)
  initialised-step (home.Static n) t m m' name i g = gives k [] m m' (λ r. (r, tt)) (static-before n t m m' name i g)
  initialised-step (home.Known n) t m m' name i g = gives k [] m m' (λ r. (r, tt)) (static-before n t m m' name i g)
  initialised-step home.None t m m' name i g = absurd g
  initialised-step (home.Parameter n) t m m' name i g = absurd g

  home-whole : (h : Home) (t : TypeId) → HasObject h → IsReadyHome k h t → IsWhole k t
  home-whole (home.Static n) t o r = r.1
  home-whole (home.Known n) t o r = r.1
  home-whole (home.Local n) t o r = r.1
  home-whole home.None t o r = absurd o
  home-whole (home.Parameter n) t o r = absurd o

  declarators-step : (file : Bool) → (file ≡ false → k.file ≡ false)
      → (storage : Storage) (base : TypeId) (all : TypedInitDeclarators) (m m' : units.Known) → IsType k.table base
      → AreDeclarators k.table file storage base all m m'
      → Step k m m' (made_by_init_declarators all) (declarators_listed storage all) (AreReadyDeclarators k (before_main k) all)
  declarators-step file fq storage base typed.NoInitDeclarator m m' b h = none k m m' h
  declarators-step file fq storage base (typed.AndPlain all (typed.Declares form t)) m m' b h =
      gives k (made_by_init_declarators all ++ made_by_form form t) m m' (λ r. (r.0, r.1.0, r.1.1, r.1.2))
      (joins k (made_by_init_declarators all) (made_by_form form t) m h.0 m' (declarators-step file fq storage base all m h.0 b h.1)
      (declarator-step file fq storage base Written form t h.0 m' b h.2))
  declarators-step file fq storage base (typed.AndInitialised all (typed.Declares form t) at i) m m' b h =
      let o = outermost_of (size_given (is_char_array k.table t) i) in
      let x = made_by_init_declarators all in
      let y = made_by_form form t in
      let z = made_by_initialiser i in
      let first = declarators-step file fq storage base all m h.0 b h.3 in
      let second = declarator-step file fq storage base o form t h.0 h.1 b h.4 in
      let hm = home_of_form form in
      let fourth = initialised-step hm t (with_scopes h.1 h.2) m' (name_bytes (name_of_form form)) i h.6 in
      let walked = init-kept k.table (Known k) (values k) i at t h.1.scopes h.2 h.5 in
      let third : IsGrown h.1 (with_scopes h.1 h.2) = record { stays = walked.stays; linked = λ name u v. v } in
      record {
        grown = both-grown first.grown (both-grown second.grown (both-grown third fourth.grown));
        ready = λ q l a d.
            let ds = declarators_listed storage all in
            let own = unless_typedef storage (typed.Declares form t) in
            let l3 = last-left k (with_scopes h.1 h.2) m' fourth.grown l in
            let l2 = last-left k h.1 (with_scopes h.1 h.2) third l3 in
            let l1 = last-left k h.0 h.1 second.grown l2 in
            let r1 = first.ready q l1 (ml k x y (ml k (x ++ y) z a)) (all-left (Contains k.declarators) ds own d) in
            let r2 = second.ready r1.1 l2 (mr k x y (ml k (x ++ y) z a)) (all-right (Contains k.declarators) ds own d) in
            let in3 : In k (with_scopes h.1 h.2) = record
            { names = walked.names r2.1.names; defined = walked.stays.defined ∙ r2.1.defined; linked = r2.1.linked; statics = r2.1.statics } in
            let r4 = fourth.ready in3 l (All-nil (IsMade k)) (All-nil (Contains k.declarators)) in
            let whole = home-whole hm t r4.0.1 r2.0.2 in
            let r3 = init-ready k f.formed i at t h.1.scopes h.2 h.5 whole
            (record {
              names = r2.1.names;
              defined = r2.1.defined;
              followed = l3.followed;
              lengths = l3.lengths;
              calls = f.calls;
              definitions = f.definitions;
            }) (mr k (x ++ y) z a) in
            ((r1.0, r2.0.0, whole, r2.0.2, r4.0.1, r4.0.0 r3), r4.1);
      }

  pub specifiers-step : (all : TypedSpecifiers) (m : units.Known) (s : Scopes) → AreSpecifiers k.table all m.scopes s
      → Step k m (with_scopes m s) (made_by_specifiers all) [] (AreReadySpecifiers (unread k) all)
  specifiers-step all m s h = walks k f (made_by_specifiers all) m s (Walked.specifiers-kept k.table (Known k) (values k) all m.scopes s h)
      (λ a made. specifiers-ready (unread k) f.formed refl all m.scopes s h (at-unread k m.scopes s a) (mu k (made_by_specifiers all) made))

  alone-step : (all : TypedSpecifiers) (m : units.Known) (s : Scopes) → AreAlone k.table all m.scopes s
      → Step k m (with_scopes m s) (made_by_specifiers all) [] (AreReadySpecifiers (unread k) all)
  alone-step (typed.Specified (typed.AndSpecifier typed.NoSpecifier (typed.Tagged which at name t)) u) m s h =
      walks k f [] m s (Walked.alone-kept k.table (Known k) (values k)
      (typed.Specified (typed.AndSpecifier typed.NoSpecifier (typed.Tagged which at name t)) u) m.scopes s h)
      (λ a made. (tt, Walked.alone-aggregate k.table (Known k) (values k) which name t m.scopes s a.names h.0))
  alone-step (typed.Specified typed.NoSpecifier u) m s h = specifiers-step (typed.Specified typed.NoSpecifier u) m s h
  alone-step (typed.Specified (typed.AndSpecifier (typed.AndSpecifier all other) one) u) m s h =
      specifiers-step (typed.Specified (typed.AndSpecifier (typed.AndSpecifier all other) one) u) m s h
  alone-step (typed.Specified (typed.AndSpecifier typed.NoSpecifier one) u) m s h =
      specifiers-step (typed.Specified (typed.AndSpecifier typed.NoSpecifier one) u) m s h

  some-declarators : (file : Bool) → (file ≡ false → k.file ≡ false)
      → (specifiers : TypedSpecifiers) (all : TypedInitDeclarators) (m m' : units.Known)
      → ((s : Scopes) × AreSpecifiers k.table specifiers m.scopes s × AreDeclarators k.table file (storage_of specifiers)
      (specified_type specifiers) all (with_scopes m s) m')
      → Step k m m' (made_by_specifiers specifiers ++ made_by_init_declarators all) (declarators_in_declaration (typed.Declare specifiers all))
      (AreReadySpecifiers (unread k) specifiers × AreReadyDeclarators k (before_main k) all)
  some-declarators file fq specifiers all m m' h =
      subst (λ (ds : List TypedDeclarator). Step k m m' (made_by_specifiers specifiers ++ made_by_init_declarators all) ds
      (AreReadySpecifiers (unread k) specifiers × AreReadyDeclarators k (before_main k) all)) (declared-same k.table specifiers all m.scopes h.0 h.1)
      (joins k (made_by_specifiers specifiers) (made_by_init_declarators all) m (with_scopes m h.0) m' (specifiers-step specifiers m h.0 h.1)
      (declarators-step file fq (storage_of specifiers) (specified_type specifiers) all (with_scopes m h.0) m'
      (specified-in k.table specifiers m.scopes h.0 h.1) h.2))

  pub declaration-step : (file : Bool) → (file ≡ false → k.file ≡ false) → (d : TypedDeclaration) (m m' : units.Known)
      → IsDeclaration k.table file d m m' → Step k m m' (made_by_declaration d) (declarators_in_declaration d)
      (IsReadyDeclaration k (before_main k) d)
  declaration-step file fq (typed.Declare specifiers typed.NoInitDeclarator) m m' h =
      subst (λ (ds : List TypedDeclarator). Step k m m' (made_by_specifiers specifiers ++ []) ds
      (IsReadyDeclaration k (before_main k) (typed.Declare specifiers typed.NoInitDeclarator))) (sym (alone-none specifiers))
      (joins k (made_by_specifiers specifiers) [] m (with_scopes m h.0) m' (alone-step specifiers m h.0 h.1) (none k (with_scopes m h.0) m' h.2))
  declaration-step file fq (typed.Declare specifiers (typed.AndPlain all d)) m m' h =
      some-declarators file fq specifiers (typed.AndPlain all d) m m' h
  declaration-step file fq (typed.Declare specifiers (typed.AndInitialised all d at i)) m m' h =
      some-declarators file fq specifiers (typed.AndInitialised all d at i) m m' h

  -- Statements

  expression-step : (e : TypedExpr) (m : units.Known) (s : Scopes) → IsTyped k.table e m.scopes s → Suits k e
      → Step k m (with_scopes m s) (made_by e) [] (IsReady k e)
  expression-step e m s h q =
      walks k f (made_by e) m s (Walked.value-kept k.table (Known k) (values k) e m.scopes s h)
      (λ a made. value-ready k f.formed e m.scopes s h a made q)

  dropped-step : (e : Option TypedExpr) (m m' : units.Known) → IsDropped k.table e m m' → Step k m m' (made_by_optional e) [] (IsReadyOptional k e)
  dropped-step None m m' h = none k m m' h
  dropped-step (Some e) m m' h =
      ends k (made_by e) m (with_scopes m h.0) m' h.3
      (gives k (made_by e) m (with_scopes m h.0) (λ r. (r, h.2)) (expression-step e m h.0 h.1 (droppable-suits k e h.2)))

  tested-step : (e : TypedExpr) (m m' : units.Known) → IsTested k.table e m m' → Step k m m' (made_by e) [] (IsReadyTest k e)
  tested-step e m m' h =
      ends k (made_by e) m (with_scopes m h.0) m' h.3
      (gives k (made_by e) m (with_scopes m h.0) (λ r. (r, h.2)) (expression-step e m h.0 h.1 (plain-suits k e h.2.plain)))

  tested_or_none-step : (e : Option TypedExpr) (m m' : units.Known) → IsTestedOrNone k.table e m m'
      → Step k m m' (made_by_optional e) [] (IsReadyTestOrNone k e)
  tested_or_none-step None m m' h = none k m m' h
  tested_or_none-step (Some e) m m' h = tested-step e m m' h

  void-in : (t : TypeId) → IsType k.table t → is_void_shape (shape_at k.table t) ≡ true → IsVoid k.table t
  void-in t b h = (b, by (shape_at k.table t) h)
    where
      by : (x : TypeShape) → is_void_shape x ≡ true → x ≡ Void
      by Void g = refl
      by (Integer bytes signed) g = no_true g
      by (Pointer n u) g = no_true g
      by (Array u n) g = no_true g
      by (Function ps r) g = no_true g
      by (Struct n) g = no_true g
      by (Union n) g = no_true g

  return-step : (at : Place) (t : TypeId) → IsType k.table t → (e : Option TypedExpr) (m m' : units.Known) → IsReturned k.table at t e m m'
      → Step k m m' (made_by_optional e) [] (IsReadyReturn k t e)
  return-step at t b None m m' h = gives k [] m m' (λ u. void-in t b h.1) (none k m m' h.0)
  return-step at t b (Some e) m m' h =
      let c = converted-suits k at t e h.2 in
      ends k (made_by e) m (with_scopes m h.0) m' h.3 (gives k (made_by e) m (with_scopes m h.0) (λ r. (r, c.1)) (expression-step e m h.0 h.1 c.0))

  label-ready : (on : Option TypeId) (e : TypedExpr) (value : ℤ) → IsLabel k.table on e value → IsPlain e × IsReadyLabel k.table on value
  label-ready None e value h = absurd h
  label-ready (Some t) e value h =
      (h.2, (h.0, integer-from k.table t h.0 h.3, ap (λ (z : ℤ). converted h.0 z) h.5 ∙ (converted-twice h.0 h.1 ∙ sym h.5)))

  mutual
    pub statement-step : (a : Around) (st : TypedStatement) (m m' : units.Known) → (IsType k.table a.result × (k.file ≡ false))
        → IsStatement k.table a st m m' → Step k m m' (made_by_statement st) (declarators_in_statement st) (IsReadyStatement k (before_main k) a st)
    statement-step a (typed.Block brace items) m m' b h =
        ends k (made_by_block_items items) m (leaving_known h.0) m' h.2
        (blocks k (made_by_block_items items) m h.0 (items-step a None items (entering_known m) h.0 b h.1))
    statement-step a (typed.Express e) m m' b h = dropped-step (Some e) m m' h
    statement-step a typed.Empty m m' b h = none k m m' h
    statement-step a (typed.If at paren c s) m m' b h =
        let x = made_by c in let y = made_by_statement s in
        ends k (x ++ y) m (leaving_known (leaving_known h.1)) m' h.4 (blocks k (x ++ y) m (leaving_known h.1)
        (joins k x y (entering_known m) h.0 (leaving_known h.1) (tested-step c (entering_known m) h.0 h.2)
        (blocks k y h.0 h.1 (statement-step a s (entering_known h.0) h.1 b h.3))))
    statement-step a (typed.IfElse at paren c s r) m m' b h =
        let x = made_by c in let y = made_by_statement s in let z = made_by_statement r in
        let n = leaving_known h.1 in
        ends k (x ++ y ++ z) m (leaving_known (leaving_known h.2)) m' h.6 (blocks k (x ++ y ++ z) m (leaving_known h.2)
        (gives k (x ++ y ++ z) (entering_known m) (leaving_known h.2) (λ q. (q.0.0, q.0.1, q.1))
        (joins k (x ++ y) z (entering_known m) n (leaving_known h.2)
        (joins k x y (entering_known m) h.0 n (tested-step c (entering_known m) h.0 h.3)
        (blocks k y h.0 h.1 (statement-step a s (entering_known h.0) h.1 b h.4)))
        (blocks k z n h.2 (statement-step a r (entering_known n) h.2 b h.5)))))
    statement-step a (typed.Switch at paren e brace items) m m' b h =
        let n = with_scopes m h.0 in
        ends k (made_by e ++ made_by_block_items items) m (leaving_known (leaving_known h.1)) m' h.5
        (blocks k (made_by e ++ made_by_block_items items) m (leaving_known h.1)
        (gives k (made_by e ++ made_by_block_items items) (entering_known m) (leaving_known h.1) (λ q. (q.0, h.3, q.1))
        (joins k (made_by e) (made_by_block_items items) (entering_known m) n (leaving_known h.1)
        (expression-step e (entering_known m) h.0 h.2 (operand-suits k at _ h.3.operand.kind e h.3.operand.operand h.3.operand.integer))
        (blocks k (made_by_block_items items) n h.1 (items-step (in_a_switch a) (Some (type_of e)) items (entering_known n) h.1 b h.4)))))
    statement-step a (typed.While at paren c s) m m' b h =
        let x = made_by c in let y = made_by_statement s in
        ends k (x ++ y) m (leaving_known (leaving_known h.1)) m' h.4 (blocks k (x ++ y) m (leaving_known h.1)
        (joins k x y (entering_known m) h.0 (leaving_known h.1) (tested-step c (entering_known m) h.0 h.2)
        (blocks k y h.0 h.1 (statement-step (in_a_loop a) s (entering_known h.0) h.1 b h.3))))
    statement-step a (typed.DoWhile s at paren c) m m' b h =
        let x = made_by_statement s in let y = made_by c in
        ends k (x ++ y) m (leaving_known h.1) m' h.4 (blocks k (x ++ y) m h.1
        (joins-plain k x y (entering_known m) (leaving_known h.0) h.1
        (blocks k x (entering_known m) h.0 (statement-step (in_a_loop a) s (entering_known (entering_known m)) h.0 b h.2))
        (tested-step c (leaving_known h.0) h.1 h.3)))
    statement-step a (typed.For at paren first test step s) m m' b h =
        let x = made_by_optional first in let y = made_by_optional test in let z = made_by_optional step in let v = made_by_statement s in
        ends k (x ++ y ++ z ++ v) m (leaving_known (leaving_known h.3)) m' h.8 (blocks k (x ++ y ++ z ++ v) m (leaving_known h.3)
        (gives k (x ++ y ++ z ++ v) (entering_known m) (leaving_known h.3) (λ q. (q.0.0.0, q.0.0.1, q.0.1, q.1))
        (joins k (x ++ y ++ z) v (entering_known m) h.2 (leaving_known h.3)
        (joins k (x ++ y) z (entering_known m) h.1 h.2
        (joins k x y (entering_known m) h.0 h.1 (dropped-step first (entering_known m) h.0 h.4) (tested_or_none-step test h.0 h.1 h.5))
        (dropped-step step h.1 h.2 h.6))
        (blocks k v h.2 h.3 (statement-step (in_a_loop a) s (entering_known h.2) h.3 b h.7)))))
    statement-step a (typed.ForDeclaration at paren d test step s) m m' b h =
        let x = made_by_declaration d in let y = made_by_optional test in let z = made_by_optional step in let v = made_by_statement s in
        ends k (x ++ y ++ z ++ v) m (leaving_known (leaving_known h.3)) m' h.8 (blocks k (x ++ y ++ z ++ v) m (leaving_known h.3)
        (gives k (x ++ y ++ z ++ v) (entering_known m) (leaving_known h.3) (λ q. (q.0.0.0, q.0.0.1, q.0.1, q.1))
        (joins k (x ++ y ++ z) v (entering_known m) h.2 (leaving_known h.3)
        (joins-plain k (x ++ y) z (entering_known m) h.1 h.2
        (joins-plain k x y (entering_known m) h.0 h.1 (declaration-step false (λ q. b.1) d (entering_known m) h.0 h.4)
        (tested_or_none-step test h.0 h.1 h.5)) (dropped-step step h.1 h.2 h.6))
        (blocks k v h.2 h.3 (statement-step (in_a_loop a) s (entering_known h.2) h.3 b h.7)))))
    statement-step a (typed.Break at) m m' b h = gives k [] m m' (λ u. h.1) (none k m m' h.0)
    statement-step a (typed.Continue at) m m' b h = gives k [] m m' (λ u. h.1) (none k m m' h.0)
    statement-step a (typed.Return at e) m m' b h = return-step at a.result b.0 e m m' h

    pub items-step : (a : Around) (on : Option TypeId) (items : TypedBlockItems) (m m' : units.Known) → (IsType k.table a.result × (k.file ≡ false))
        → AreBlockItems k.table a on items m m'
        → Step k m m' (made_by_block_items items) (declarators_in_items items) (AreReadyBlockItems k (before_main k) a on items)
    items-step a on typed.NoBlockItem m m' b h = none k m m' h
    items-step a on (typed.AndStatement all s) m m' b h =
        joins k (made_by_block_items all) (made_by_statement s) m h.0 m' (items-step a on all m h.0 b h.1) (statement-step a s h.0 m' b h.2)
    items-step a on (typed.AndDeclaration all d) m m' b h =
        joins k (made_by_block_items all) (made_by_declaration d) m h.0 m' (items-step a on all m h.0 b h.1)
        (declaration-step false (λ q. b.1) d h.0 m' h.2)
    items-step a on (typed.AndCase all at e value) m m' b h =
        let c = label-ready on e value h.4 in
        gives k (made_by_block_items all ++ made_by e) m m' (λ q. (q.0, q.1, c.1))
        (joins-plain k (made_by_block_items all) (made_by e) m h.0 m' (items-step a on all m h.0 b h.2)
        (ends k (made_by e) h.0 (with_scopes h.0 h.1) m' h.5
        (walks k f (made_by e) h.0 h.1 (Walked.value-kept k.table (Known k) (values k) e h.0.scopes h.1 h.3)
        (λ x made. value-ready (unread k) f.formed e h.0.scopes h.1 h.3 (at-unread k h.0.scopes h.1 x) (mu k (made_by e) made)
        (plain-suits (unread k) e c.0)))))
    items-step a on (typed.AndDefault all at) m m' b h = items-step a on all m m' b h
