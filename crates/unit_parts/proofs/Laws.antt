-- How what is collected grows.
use Rattle.std.proofs.Common.{◌≡◌, refl, ap, sym, subst, ◌∙◌, ◌+◌, ◌<◌, take, map, flat_map, length, ℕ, true, false, List, [], ◌∷◌, ◌++◌, append-nil, append_assoc, Option, Some, None, add-one, get_or}
use Rattle.std.proofs.lemmas.Grind.{flat_map-append}
use Rattle.std.proofs.lemmas.List.{map-append}
use Rattle.std.proofs.Math.Seq.{take-suc}
use Rattle.cc_base.specs.declared.number.NodeId.{NodeId}
use Rattle.kind_sites.specs.declared.site.Site.{Site}
use Rattle.c_types.specs.Table.{Table}
use Rattle.c_tree.specs.TypedParts.{Made, static_made, local_made, made_by_stars, made_by_adjusted}
use Rattle.c_tree.specs.declared.typed_word.TypedStar.{TypedStar}
use Rattle.c_tree.specs.declared.typed_word.Adjusted.{Adjusted}
use Rattle.src_mem.specs.Memory.{Planned}
use Rattle.src_mem.specs.Runs as runs
use Rattle.src_machine.specs.Pieces.{Piece}
use Rattle.src_machine.specs.Sites.{sites_of_piece}
use Rattle.kind_sites.specs.declared.site.Site.TheVariants as site
use Rattle.cil_form.specs.declared.program.Static.{Static}
use Rattle.cil_form.specs.declared.number.Planned.{Planned as PlannedObject}
use Rattle.cil_form.specs.Machine.{plan}
use Rattle.unit_parts.specs.declared.collected.Collected.{Collected}
use Rattle.cil_form.specs.Sites.{Each}
use Rattle.unit_parts.specs.Collecting.{Adds, AreBytes, Asks, Collects, Forgets, HaveBytes, IsBytes, local_of, locals_from, seen_statics, static_of, statics_from}

-- lists, one after another

each_append : {X : Type 0} (P : X → Type 0) (xs ys : List X) → Each P xs → Each P ys → Each P (xs ++ ys)
each_append P [] ys a b = b
each_append P (x ∷ xs) ys a b = (a.0, each_append P xs ys a.1 b)

statics_append : (a b : List Made) → statics_from (a ++ b) ≡ statics_from a ++ statics_from b
statics_append a b = ap (map static_of) (flat_map-append static_made a b) ∙ map-append static_of (flat_map static_made a) (flat_map static_made b)

locals_append : (a b : List Made) → locals_from (a ++ b) ≡ locals_from a ++ locals_from b
locals_append a b = ap (map local_of) (flat_map-append local_made a b) ∙ map-append local_of (flat_map local_made a) (flat_map local_made b)

sites_append : (table : Table) (a b : List Piece)
    → flat_map (sites_of_piece table) (a ++ b) ≡ flat_map (sites_of_piece table) a ++ flat_map (sites_of_piece table) b
sites_append table a b = flat_map-append (sites_of_piece table) a b

behind : {X : Type 0} (x y z p q : List X) → y ≡ x ++ p → z ≡ y ++ q → z ≡ x ++ (p ++ q)
behind x y z p q e f = f ∙ ap (λ m. m ++ q) e ∙ append_assoc x p q

pub adds_then : (s t : List runs.Static) (l m : List Planned) (x y : List Site) (a b c : Collected)
    → Adds s l x a b → Adds t m y b c → Adds (s ++ t) (l ++ m) (x ++ y) a c
unfolding Adds
adds_then s t l m x y a b c f g = λ fine.
    let q = g fine in let p = f q.0 in (
      p.0,
      behind (seen_statics a.statics.items) (seen_statics b.statics.items) (seen_statics c.statics.items) s t p.1 q.1,
      behind (map plan a.locals.items) (map plan b.locals.items) (map plan c.locals.items) l m p.2 q.2,
      behind a.sites.items b.sites.items c.sites.items x y p.3 q.3,
      λ h. q.4 (p.4 h),
    )

pub collects_then : (table : Table) (A C : List Made) (B D : List Piece) (a b c : Collected)
    → Collects table A B a b → Collects table C D b c → Collects table (A ++ C) (B ++ D) a c
unfolding Collects
collects_then table A C B D a b c f g =
    rw (statics_append A C, locals_append A C, sites_append table B D)
    (adds_then (statics_from A) (statics_from C) (locals_from A) (locals_from C) (flat_map (sites_of_piece table) B) (flat_map (sites_of_piece table) D) a b c f g)

pub adds_nothing : (a : Collected) → Adds [] [] [] a a
unfolding Adds
adds_nothing a = λ fine. (fine, sym (append-nil _), sym (append-nil _), sym (append-nil _), λ h. h)

pub collects_nothing : (table : Table) (a : Collected) → Collects table [] [] a a
unfolding Collects
collects_nothing table a = adds_nothing a

pub asks_nothing : (a : Collected) → Asks [] a a
unfolding Asks
asks_nothing a = adds_nothing a

pub asks_then : (x y : List Site) (a b c : Collected) → Asks x a b → Asks y b c → Asks (x ++ y) a c
unfolding Asks
asks_then x y a b c f g = adds_then [] [] [] [] x y a b c f g

pub asks_one : (one : Site) (y : List Site) (a b c : Collected) → Asks (one ∷ []) a b → Asks y b c → Asks (one ∷ y) a c
asks_one one y a b c f g = asks_then (one ∷ []) y a b c f g

-- of the addresses of both
pub asks_linked : (n : NodeId) (x y : List NodeId) (a b c : Collected)
    → Asks (map (site.Linked n) x) a b → Asks (map (site.Linked n) y) b c → Asks (map (site.Linked n) (x ++ y)) a c
asks_linked n x y a b c f g = rw (map-append (site.Linked n) x y) (asks_then _ _ a b c f g)

-- a site is appended
pub asked : (one : Site) (a b : Collected) → b.fine ≡ a.fine → b.statics.items ≡ a.statics.items → b.locals.items ≡ a.locals.items
    → b.sites.items ≡ a.sites.items ++ one ∷ [] → Asks (one ∷ []) a b
unfolding Asks Adds
asked one a b fine statics locals sites = λ h. (
  sym fine ∙ h,
  ap seen_statics statics ∙ sym (append-nil _),
  ap (map plan) locals ∙ sym (append-nil _),
  sites,
  λ t. subst HaveBytes (sym statics) t,
)

pub asks_failed : (x : List Site) (a b : Collected) → b.fine ≡ false → Asks x a b
unfolding Asks Adds
asks_failed x a b e = λ h. cc

pub collects_failed : (table : Table) (A : List Made) (B : List Piece) (a b : Collected) → b.fine ≡ false → Collects table A B a b
unfolding Collects Adds
collects_failed table A B a b e = λ h. cc

-- what a piece asks comes behind what its parts ask
pub collects_asks : (table : Table) (A : List Made) (B : List Piece) (x : Piece) (s : List Site) (a b c : Collected)
    → sites_of_piece table x ≡ s → Collects table A B a b → Asks s b c → Collects table A (B ++ x ∷ []) a c
unfolding Collects Asks
collects_asks table A B x s a b c same f g =
    let last : flat_map (sites_of_piece table) (B ++ x ∷ []) ≡ flat_map (sites_of_piece table) B ++ s
    = sites_append table B (x ∷ []) ∙ ap (λ m. flat_map (sites_of_piece table) B ++ m) (append-nil (sites_of_piece table x) ∙ same) in
    let law = adds_then (statics_from A) [] (locals_from A) [] (flat_map (sites_of_piece table) B) s a b c f g in
    subst (λ m. Adds (statics_from A) (locals_from A) m a c) (sym last)
    (subst (λ l. Adds (statics_from A) l (flat_map (sites_of_piece table) B ++ s) a c) (append-nil (locals_from A))
    (subst (λ l. Adds l (locals_from A ++ []) (flat_map (sites_of_piece table) B ++ s) a c) (append-nil (statics_from A)) law))

-- a piece that asks nothing
pub collects_silent : (table : Table) (A : List Made) (B : List Piece) (x : Piece) (a b : Collected)
    → sites_of_piece table x ≡ [] → Collects table A B a b → Collects table A (B ++ x ∷ []) a b
unfolding Collects
collects_silent table A B x a b same f =
    let last : flat_map (sites_of_piece table) (B ++ x ∷ []) ≡ flat_map (sites_of_piece table) B
    = sites_append table B (x ∷ []) ∙ ap (λ m. flat_map (sites_of_piece table) B ++ m) (append-nil (sites_of_piece table x) ∙ same)
    ∙ append-nil (flat_map (sites_of_piece table) B) in
    subst (λ m. Adds (statics_from A) (locals_from A) m a b) (sym last) f

-- nothing behind
pub collects_kept : (table : Table) (A : List Made) (B : List Piece) (a b c : Collected)
    → Collects table A B a b → Collects table [] [] b c → Collects table A B a c
collects_kept table A B a b c f g =
    subst (λ l. Collects table l B a c) (append-nil A) (subst (λ l. Collects table (A ++ []) l a c) (append-nil B) (collects_then table A [] B [] a b c f g))

-- something is made that is no object
pub collects_other : (table : Table) (A : List Made) (B : List Piece) (m : Made) (a b : Collected)
    → static_made m ≡ [] → local_made m ≡ [] → Collects table A B a b → Collects table (A ++ m ∷ []) B a b
unfolding Collects
collects_other table A B m a b s l f =
    let statics : statics_from (A ++ m ∷ []) ≡ statics_from A
    = statics_append A (m ∷ []) ∙ ap (λ z. statics_from A ++ map static_of z) (append-nil (static_made m) ∙ s) ∙ append-nil (statics_from A) in
    let locals : locals_from (A ++ m ∷ []) ≡ locals_from A
    = locals_append A (m ∷ []) ∙ ap (λ z. locals_from A ++ map local_of z) (append-nil (local_made m) ∙ l) ∙ append-nil (locals_from A) in
    rw (statics, locals) f

stars_static : (all : List TypedStar) → flat_map static_made (made_by_stars all) ≡ []
stars_static [] = refl
stars_static (s ∷ all) = stars_static all

stars_local : (all : List TypedStar) → flat_map local_made (made_by_stars all) ≡ []
stars_local [] = refl
stars_local (s ∷ all) = stars_local all

-- pointer types are no objects
pub collects_stars : (table : Table) (stars : List TypedStar) (A : List Made) (B : List Piece) (a b : Collected)
    → Collects table A B a b → Collects table (made_by_stars stars ++ A) B a b
unfolding Collects
collects_stars table stars A B a b f =
    rw (statics_append (made_by_stars stars) A, locals_append (made_by_stars stars) A, stars_static stars, stars_local stars) f

pub collects_adjusted : (table : Table) (adjusted : Option Adjusted) (A : List Made) (B : List Piece) (a b : Collected)
    → Collects table A B a b → Collects table (A ++ made_by_adjusted adjusted) B a b
unfolding Collects
collects_adjusted table None A B a b f = rw (append-nil A) f
collects_adjusted table (Some one) A B a b f =
    rw (statics_append A (made_by_adjusted (Some one)), locals_append A (made_by_adjusted (Some one)), append-nil (statics_from A), append-nil (locals_from A)) f

-- of a part's pieces nothing is asked
pub collects_forgotten : (table : Table) (A : List Made) (B : List Piece) (kept : ℕ) (a b c : Collected)
    → kept ≡ length a.sites.items → Collects table A B a b → Forgets kept b c → Collects table A [] a c
unfolding Collects Adds Forgets
collects_forgotten table A B kept a b c number f g = λ fine.
    let q = g fine in let p = f q.0 in (
      p.0,
      ap seen_statics q.1 ∙ p.1,
      ap (map plan) q.2 ∙ p.2,
      q.3 ∙ ap (take kept) p.3 ∙ ap (λ n. take n (a.sites.items ++ flat_map (sites_of_piece table) B)) number
          ∙ take_front a.sites.items (flat_map (sites_of_piece table) B) ∙ sym (append-nil a.sites.items),
      λ h. subst HaveBytes (sym q.1) (p.4 h),
    )
  where
    take_front : {X : Type 0} (x y : List X) → take (length x) (x ++ y) ≡ x
    take_front [] y = refl
    take_front (z ∷ x) y = ap (λ m. z ∷ m) (take_front x y)

-- an object is appended

pub one_static : (table : Table) (x : Made) (o : Static) (a b : Collected)
    → statics_from (x ∷ []) ≡ seen_statics (o ∷ []) → locals_from (x ∷ []) ≡ [] → IsBytes o.text
    → (b.fine ≡ true → (a.fine ≡ true) × (b.statics.items ≡ a.statics.items ++ o ∷ []))
    → b.locals.items ≡ a.locals.items → b.sites.items ≡ a.sites.items → Collects table (x ∷ []) [] a b
unfolding Collects Adds
one_static table x o a b same none bytes f locals sites = λ fine.
    let p = f fine in (
      p.0,
      ap seen_statics p.1 ∙ map-append _ a.statics.items (o ∷ []) ∙ ap (λ l. seen_statics a.statics.items ++ l) (sym same),
      ap (map plan) locals ∙ sym (append-nil _) ∙ ap (λ l. map plan a.locals.items ++ l) (sym none),
      sites ∙ sym (append-nil _),
      λ h. subst HaveBytes (sym p.1) (each_append _ a.statics.items (o ∷ []) h (bytes, tt)),
    )

pub one_local : (table : Table) (x : Made) (o : PlannedObject) (a b : Collected)
    → statics_from (x ∷ []) ≡ [] → locals_from (x ∷ []) ≡ plan o ∷ []
    → (b.fine ≡ true → (a.fine ≡ true) × (b.locals.items ≡ a.locals.items ++ o ∷ []))
    → b.statics.items ≡ a.statics.items → b.sites.items ≡ a.sites.items → Collects table (x ∷ []) [] a b
unfolding Collects Adds
one_local table x o a b none same f statics sites = λ fine.
    let p = f fine in (
      p.0,
      ap seen_statics statics ∙ sym (append-nil _) ∙ ap (λ l. seen_statics a.statics.items ++ l) (sym none),
      ap (map plan) p.1 ∙ map-append plan a.locals.items (o ∷ []) ∙ ap (λ l. map plan a.locals.items ++ l) (sym same),
      sites ∙ sym (append-nil _),
      λ h. subst HaveBytes (sym statics) h,
    )

-- bytes

pub more_bytes : (xs : List ℕ) (b : ℕ) → AreBytes xs → b < 256 → AreBytes (xs ++ b ∷ [])
more_bytes xs b h small = each_append _ xs (b ∷ []) h (small, tt)

-- a byte more
pub more_taken : (xs : List ℕ) (i x : ℕ) (start now next : List ℕ) → i < length xs → x ≡ get_or xs i 0
    → now ≡ start ++ take i xs → next ≡ now ++ x ∷ [] → next ≡ start ++ take (i + 1) xs
more_taken xs i x start now next within at e f =
    let law : take (i + 1) xs ≡ take i xs ++ x ∷ [] = rw add-one (take-suc xs i 0 within ∙ ap (λ y. take i xs ++ y ∷ []) (sym at)) in
    f ∙ ap (λ m. m ++ x ∷ []) e ∙ append_assoc start (take i xs) (x ∷ []) ∙ ap (λ m. start ++ m) (sym law)
