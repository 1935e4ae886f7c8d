-- The types of first declarations, one declaration more at a time, and their sites.
use Rattle.std.proofs.Common.{◌≡◌, refl, ap, sym, subst, ◌∙◌, ℕ, List, [], ◌∷◌, ◌++◌, append-nil, append_assoc, map, flat_map, Bool, true, false, cond, if◌then◌else◌, Option, Some, None, bytes_eq, ◌==◌, ◌&&◌, ◌||◌}
use Rattle.std.proofs.lemmas.Grind.{flat_map-append}
use Rattle.std.proofs.lemmas.Slice.Eq.{bytes_eq-Decides}
use Rattle.cc_base.specs.declared.number.NodeId.{NodeId}
use Rattle.cc_base.specs.declared.number.TypeId.{TypeId}
use Rattle.kind_sites.specs.declared.site.Site.{Site}
use Rattle.kind_sites.specs.declared.site.Site.TheVariants as site
use Rattle.c_types.specs.Table.{Table}
use Rattle.c_tree.specs.declared.leaf.Identifier.{Identifier}
use Rattle.c_tree.specs.TypedTree.{TypedDeclarator}
use Rattle.named_lists.specs.Entries.{Name, entry_of, seen_entries, with_entry}
use Rattle.named_lists.proofs.EntryLaws.{insert-seen, entry-last}
use Rattle.src_machine.specs.World.{same_node}
use Rattle.src_machine.specs.Names.{Named, Which, AnObject, AFunction, first_type, is_same_which, named_by}
use Rattle.src_machine.specs.Sites.{same_as, sites_of_names}
use Rattle.indexmap.specs.IndexMap.{insert_entry}
use Rattle.lower_sites.specs.declared.names.Names.{Names}
use Rattle.lower_sites.specs.HomeNames.{home_name}
use Rattle.lower_sites.specs.Telling.{IsTold, Tells, named_by_all}

-- a map with one more

pub firsts_added : {K : Type 0} (bytes : K → Name) (eq : K → K → Bool) → ((k x : K) → eq k x ≡ bytes_eq (bytes k) (bytes x))
    → (es changed : List (K × TypeId)) (k : K) (name : Name) (what : TypeId) (l : List (Name × TypeId))
    → seen_entries bytes es ≡ l → bytes k ≡ name → changed ≡ insert_entry eq es k what → entry_of l name ≡ None
    → seen_entries bytes changed ≡ l ++ (name, what) ∷ []
firsts_added bytes eq same es changed k name what l seen named made =
    let P : List (Name × TypeId) → Type 0 = λ m. entry_of m name ≡ None → seen_entries bytes changed ≡ m ++ (name, what) ∷ [] in
    subst P seen (λ none. ap (seen_entries bytes) made
    ∙ insert-seen bytes eq k what (same k) es
    ∙ ap (λ n. with_entry n what (seen_entries bytes es)) named
    ∙ entry-last name what (seen_entries bytes es) none)

pub home_names : (k x : NodeId) → (k.0 == x.0) ≡ bytes_eq (home_name k) (home_name x)
home_names k x = by (k.0 == x.0)
  where
    by : (b : Bool) → b ≡ (b && true)
    by true = refl
    by false = refl

-- what comes first

abbrev or_else : {A : Type 0} → Option A → Option A → Option A
or_else (Some x) y = Some x
or_else None y = y

first_append : (a b : List Named) (w : Which) → first_type (a ++ b) w ≡ or_else (first_type a w) (first_type b w)
first_append [] b w = refl
first_append (x ∷ a) b w = by (is_same_which x.which w) (first_append a b w)
  where
    by : (c : Bool) → first_type (a ++ b) w ≡ or_else (first_type a w) (first_type b w)
        → cond c (Some x.type) (first_type (a ++ b) w) ≡ or_else (cond c (Some x.type) (first_type a w)) (first_type b w)
    by true e = refl
    by false e = e

entry_append : {A : Type 0} (a b : List (Name × A)) (name : Name) → entry_of (a ++ b) name ≡ or_else (entry_of a name) (entry_of b name)
entry_append [] b name = refl
entry_append (x ∷ a) b name = by (bytes_eq name x.0) (entry_append a b name)
  where
    by : (c : Bool) → entry_of (a ++ b) name ≡ or_else (entry_of a name) (entry_of b name)
        → cond c (Some x.1) (entry_of (a ++ b) name) ≡ or_else (cond c (Some x.1) (entry_of a name)) (entry_of b name)
    by true e = refl
    by false e = e

bytes_turned : (x y : List ℕ) → bytes_eq x y ≡ bytes_eq y x
bytes_turned x y = by (bytes_eq x y) (bytes_eq y x) refl refl
  where
    by : (a b : Bool) → bytes_eq x y ≡ a → bytes_eq y x ≡ b → a ≡ b
    by true true e f = refl
    by false false e f = refl
    by true false e f = sym ((bytes_eq-Decides y x).1 (sym ((bytes_eq-Decides x y).0 e))) ∙ f
    by false true e f = sym e ∙ (bytes_eq-Decides x y).1 (sym ((bytes_eq-Decides y x).0 f))

bytes_same : (x : List ℕ) → bytes_eq x x ≡ true
bytes_same x = (bytes_eq-Decides x x).1 refl

which_same : (w : Which) → is_same_which w w ≡ true
which_same (AnObject n) = home_names n n ∙ bytes_same (home_name n)
which_same (AFunction x) = bytes_same x.bytes

nothing_else : {A : Type 0} (x : Option A) → or_else x None ≡ x
nothing_else None = refl
nothing_else (Some x) = refl

-- what is declared again changes nothing
again : (all : List Named) (w : Which) (first t : TypeId) → first_type all w ≡ Some first → (v : Which)
    → (is_same_which w v ≡ true → first_type all v ≡ Some first) → first_type (all ++ record { which = w; type = t } ∷ []) v ≡ first_type all v
again all w first t e v same = first_append all (record { which = w; type = t } ∷ []) v ∙ by (is_same_which w v) same
  where
    by : (b : Bool) → (b ≡ true → first_type all v ≡ Some first) → or_else (first_type all v) (cond b (Some t) None) ≡ first_type all v
    by true f = ap (λ x. or_else x (Some t)) (f refl) ∙ sym (f refl)
    by false f = nothing_else (first_type all v)

-- Sites

told_stays : (pre post : List Named) (x : Named)
    → flat_map (λ y. same_as y.type (first_type (pre ++ post ++ x ∷ []) y.which)) post ≡ flat_map (λ y. same_as y.type (first_type (pre ++ post) y.which)) post
told_stays pre [] x = refl
told_stays pre (y ∷ post) x =
    ap (λ (s : List Site). s ++ flat_map (λ z. same_as z.type (first_type (pre ++ (y ∷ post) ++ x ∷ []) z.which)) post) (ap (same_as y.type) (kept y))
    ∙ ap (λ (s : List Site). same_as y.type (first_type (pre ++ y ∷ post) y.which) ++ s)
    (subst (λ l. flat_map (λ z. same_as z.type (first_type (l ++ x ∷ []) z.which)) post ≡ flat_map (λ z. same_as z.type (first_type l z.which)) post)
    (append_assoc pre (y ∷ []) post) (told_stays (pre ++ y ∷ []) post x))
  where
    some_else : {A : Type 0} (a : Option A) (t : A) (b : Option A) → or_else (or_else a (Some t)) b ≡ or_else a (Some t)
    some_else None t b = refl
    some_else (Some s) t b = refl

    here : (y : Named) → first_type (y ∷ post) y.which ≡ Some y.type
    here y = ap (λ b. cond b (Some y.type) (first_type post y.which)) (which_same y.which)

    kept : (y : Named) → first_type (pre ++ (y ∷ post) ++ x ∷ []) y.which ≡ first_type (pre ++ y ∷ post) y.which
    kept y =
        let there : first_type (pre ++ y ∷ post) y.which ≡ or_else (first_type pre y.which) (Some y.type)
        = first_append pre (y ∷ post) y.which ∙ ap (or_else (first_type pre y.which)) (here y) in
        first_append (pre ++ y ∷ post) (x ∷ []) y.which ∙ ap (λ a. or_else a (first_type (x ∷ []) y.which)) there
        ∙ some_else (first_type pre y.which) y.type (first_type (x ∷ []) y.which) ∙ sym there

pub told_more : (all : List Named) (x : Named)
    → sites_of_names (all ++ x ∷ []) ≡ sites_of_names all ++ same_as x.type (first_type (all ++ x ∷ []) x.which)
told_more all x =
    flat_map-append (λ y. same_as y.type (first_type (all ++ x ∷ []) y.which)) all (x ∷ [])
    ∙ ap (λ (s : List Site). s ++ (same_as x.type (first_type (all ++ x ∷ []) x.which) ++ [])) (told_stays [] all x)
    ∙ ap (λ (s : List Site). sites_of_names all ++ s) (append-nil (same_as x.type (first_type (all ++ x ∷ []) x.which)))

no_site : (t : TypeId) → same_as t (Some t) ≡ []
no_site t = ap (λ b. cond b [] (site.Same t t ∷ [])) (equal t)
  where
    equal : (t : TypeId) → (t.0 == t.0) ≡ true
    equal t = home_names (record { 0 = t.0 }) (record { 0 = t.0 }) ∙ bytes_same (t.0 ∷ [])

-- One declaration

pub tells_none : (a : Names) → Tells [] a a
unfolding Tells
tells_none a = λ fine. (fine, λ all told. subst (λ l. IsTold l a) (sym (append-nil all)) told)

pub tells_then : (x y : List Named) (a b c : Names) → Tells x a b → Tells y b c → Tells (x ++ y) a c
unfolding Tells
tells_then x y a b c f g = λ fine.
    let q = g fine in let p = f q.0 in (p.0, λ all told. subst (λ l. IsTold l c) (append_assoc all x y) (q.1 (all ++ x) (p.1 all told)))

pub tells_kept : (x : List Named) (a b c : Names) → Tells x a b → Tells [] b c → Tells x a c
tells_kept x a b c f g = subst (λ l. Tells l a c) (append-nil x) (tells_then x [] a b c f g)

pub tells_failed : (x : List Named) (a b : Names) → b.fine ≡ false → Tells x a b
unfolding Tells
tells_failed x a b e = λ fine. cc

same_other : (all : List Named) (home : NodeId) (t : TypeId) (name : Identifier)
    → first_type (all ++ record { which = AnObject home; type = t } ∷ []) (AFunction name) ≡ first_type all (AFunction name)
same_other all home t name = first_append all (record { which = AnObject home; type = t } ∷ []) (AFunction name) ∙ nothing_else (first_type all (AFunction name))

other_same : (all : List Named) (x : Identifier) (t : TypeId) (home : NodeId)
    → first_type (all ++ record { which = AFunction x; type = t } ∷ []) (AnObject home) ≡ first_type all (AnObject home)
other_same all x t home = first_append all (record { which = AFunction x; type = t } ∷ []) (AnObject home) ∙ nothing_else (first_type all (AnObject home))

-- an object that was declared before
pub object_again : (home : NodeId) (first t : TypeId) (a b : Names) → entry_of a.objects (home_name home) ≡ Some first
    → (b.fine ≡ true → (a.fine ≡ true) × (b.sites.items ≡ a.sites.items ++ same_as t (Some first))) → b.objects ≡ a.objects → b.functions ≡ a.functions
    → Tells (record { which = AnObject home; type = t } ∷ []) a b
unfolding Tells
object_again home first t a b e f os fs = λ fine.
    let p = f fine in (
      p.0,
      λ all told.
          let x : Named = record { which = AnObject home; type = t } in
          let known : first_type all (AnObject home) ≡ Some first = sym (told.objects home) ∙ e in
          record {
            objects = λ h. ap (λ l. entry_of l (home_name h)) os ∙ told.objects h
                ∙ sym (again all (AnObject home) first t known (AnObject h)
                (λ eq. sym (told.objects h) ∙ ap (entry_of a.objects) (sym ((bytes_eq-Decides (home_name home) (home_name h)).0 (sym (home_names home h) ∙ eq))) ∙ e));
            functions = λ name. ap (λ l. entry_of l name.bytes) fs ∙ told.functions name ∙ sym (same_other all home t name);
            sites = p.1 ∙ ap (λ l. l ++ same_as t (Some first)) told.sites
                ∙ sym (told_more all x ∙ ap (λ w. sites_of_names all ++ same_as t w)
                (again all (AnObject home) first t known (AnObject home) (λ eq. known) ∙ known));
          },
    )

pub function_again : (x : Identifier) (first t : TypeId) (a b : Names) → entry_of a.functions x.bytes ≡ Some first
    → (b.fine ≡ true → (a.fine ≡ true) × (b.sites.items ≡ a.sites.items ++ same_as t (Some first))) → b.objects ≡ a.objects → b.functions ≡ a.functions
    → Tells (record { which = AFunction x; type = t } ∷ []) a b
unfolding Tells
function_again x first t a b e f os fs = λ fine.
    let p = f fine in (
      p.0,
      λ all told.
          let y : Named = record { which = AFunction x; type = t } in
          let known : first_type all (AFunction x) ≡ Some first = sym (told.functions x) ∙ e in
          record {
            objects = λ h. ap (λ l. entry_of l (home_name h)) os ∙ told.objects h ∙ sym (other_same all x t h);
            functions = λ name. ap (λ l. entry_of l name.bytes) fs ∙ told.functions name
                ∙ sym (again all (AFunction x) first t known (AFunction name)
                (λ eq. sym (told.functions name) ∙ ap (entry_of a.functions) (sym ((bytes_eq-Decides x.bytes name.bytes).0 eq)) ∙ e));
            sites = p.1 ∙ ap (λ l. l ++ same_as t (Some first)) told.sites
                ∙ sym (told_more all y ∙ ap (λ w. sites_of_names all ++ same_as t w)
                (again all (AFunction x) first t known (AFunction x) (λ eq. known) ∙ known));
          },
    )

-- one that is declared first
pub object_first : (home : NodeId) (t : TypeId) (a b : Names) → entry_of a.objects (home_name home) ≡ None
    → (b.fine ≡ true → (a.fine ≡ true) × (b.objects ≡ a.objects ++ (home_name home, t) ∷ [])) → b.sites.items ≡ a.sites.items → b.functions ≡ a.functions
    → Tells (record { which = AnObject home; type = t } ∷ []) a b
unfolding Tells
object_first home t a b e f ss fs = λ fine.
    let p = f fine in (
      p.0,
      λ all told.
          let x : Named = record { which = AnObject home; type = t } in
          let known : first_type all (AnObject home) ≡ None = sym (told.objects home) ∙ e in
          let now : first_type (all ++ x ∷ []) (AnObject home) ≡ Some t
          = first_append all (x ∷ []) (AnObject home) ∙ ap (λ z. or_else z (first_type (x ∷ []) (AnObject home))) known
          ∙ ap (λ (c : Bool). cond c (Some t) None) (which_same (AnObject home)) in
          record {
            objects = λ h. ap (λ l. entry_of l (home_name h)) p.1 ∙ entry_append a.objects ((home_name home, t) ∷ []) (home_name h)
                ∙ ap (λ z. or_else z (entry_of ((home_name home, t) ∷ []) (home_name h))) (told.objects h)
                ∙ ap (λ (c : Bool). or_else (first_type all (AnObject h)) (cond c (Some t) None)) (bytes_turned (home_name h) (home_name home) ∙ sym (home_names home h))
                ∙ sym (first_append all (x ∷ []) (AnObject h));
            functions = λ name. ap (λ l. entry_of l name.bytes) fs ∙ told.functions name ∙ sym (same_other all home t name);
            sites = ss ∙ told.sites ∙ sym (append-nil (sites_of_names all)) ∙ ap (λ s. sites_of_names all ++ s) (sym (no_site t))
                ∙ sym (told_more all x ∙ ap (λ w. sites_of_names all ++ same_as t w) now);
          },
    )

pub function_first : (x : Identifier) (t : TypeId) (a b : Names) → entry_of a.functions x.bytes ≡ None
    → (b.fine ≡ true → (a.fine ≡ true) × (b.functions ≡ a.functions ++ (x.bytes, t) ∷ [])) → b.sites.items ≡ a.sites.items → b.objects ≡ a.objects
    → Tells (record { which = AFunction x; type = t } ∷ []) a b
unfolding Tells
function_first x t a b e f ss os = λ fine.
    let p = f fine in (
      p.0,
      λ all told.
          let y : Named = record { which = AFunction x; type = t } in
          let known : first_type all (AFunction x) ≡ None = sym (told.functions x) ∙ e in
          let now : first_type (all ++ y ∷ []) (AFunction x) ≡ Some t
          = first_append all (y ∷ []) (AFunction x) ∙ ap (λ z. or_else z (first_type (y ∷ []) (AFunction x))) known
          ∙ ap (λ (c : Bool). cond c (Some t) None) (which_same (AFunction x)) in
          record {
            objects = λ h. ap (λ l. entry_of l (home_name h)) os ∙ told.objects h ∙ sym (other_same all x t h);
            functions = λ name. ap (λ l. entry_of l name.bytes) p.1 ∙ entry_append a.functions ((x.bytes, t) ∷ []) name.bytes
                ∙ ap (λ z. or_else z (entry_of ((x.bytes, t) ∷ []) name.bytes)) (told.functions name)
                ∙ ap (λ (c : Bool). or_else (first_type all (AFunction name)) (cond c (Some t) None)) (bytes_turned name.bytes x.bytes)
                ∙ sym (first_append all (y ∷ []) (AFunction name));
            sites = ss ∙ told.sites ∙ sym (append-nil (sites_of_names all)) ∙ ap (λ s. sites_of_names all ++ s) (sym (no_site t))
                ∙ sym (told_more all y ∙ ap (λ w. sites_of_names all ++ same_as t w) now);
          },
    )

-- Declarators, one after another

pub tells_all : (table : Table) (x y : List TypedDeclarator) (a b c : Names) → Tells (named_by_all table x) a b → Tells (named_by_all table y) b c
    → Tells (named_by_all table (x ++ y)) a c
unfolding named_by_all
tells_all table x y a b c f g =
    subst (λ l. Tells l a c) (sym (flat_map-append (named_by table) x y)) (tells_then (named_by_all table x) (named_by_all table y) a b c f g)

one_named : (table : Table) (d : TypedDeclarator) → named_by table d ≡ named_by_all table (d ∷ [])
unfolding named_by_all
one_named table d = sym (append-nil (named_by table d))

pub tells_skip : (table : Table) (a b : Names) → Tells [] a b → Tells (named_by_all table []) a b
unfolding named_by_all
tells_skip table a b f = f

pub tells_begin : (table : Table) (a : Names) → Tells (named_by_all table []) a a
tells_begin table a = tells_skip table a a (tells_none a)

pub tells_more : (table : Table) (x : List TypedDeclarator) (d : TypedDeclarator) (a b c : Names) → Tells (named_by_all table x) a b
    → Tells (named_by table d) b c → Tells (named_by_all table (x ++ d ∷ [])) a c
tells_more table x d a b c f g = tells_all table x (d ∷ []) a b c f (subst (λ l. Tells l b c) (one_named table d) g)

pub tells_front : (table : Table) (x : List TypedDeclarator) (d : TypedDeclarator) (y : List TypedDeclarator) (a b c e : Names)
    → Tells (named_by_all table x) a b → Tells (named_by table d) b c → Tells (named_by_all table y) c e → Tells (named_by_all table (x ++ d ∷ y)) a e
tells_front table x d y a b c e f g h =
    tells_all table x (d ∷ y) a b e f (tells_all table (d ∷ []) y b c e (subst (λ l. Tells l b c) (one_named table d) g) h)

pub typedef_more : (found other all now : Bool) → found ≡ all → now ≡ (if other then true else all) → (found || other) ≡ now
typedef_more true true all now e f = sym f
typedef_more false true all now e f = sym f
typedef_more true false all now e f = e ∙ sym f
typedef_more false false all now e f = e ∙ sym f
