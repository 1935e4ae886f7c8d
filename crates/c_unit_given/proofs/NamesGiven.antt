-- Names are declared as the tree has them: a state after it, and what is counted.
use Rattle.std.proofs.Common.{◌≡◌, ◌≤◌, ◌<◌, ◌+◌, ℕ, Bool, true, List, length, Option, Some, None, refl, ap, sym, ◌∙◌, if◌then◌else◌, arith}
use Rattle.cc_base.specs.declared.number.NodeId.{NodeId}
use Rattle.cc_base.specs.declared.number.TypeId.{TypeId}
use Rattle.cc_base.specs.declared.place.Place.{Place}
use Rattle.c_types.specs.Layouts.{size_of}
use Rattle.c_types.specs.Table.{Table, IsType, IsComplete}
use Rattle.c_tree.specs.declared.leaf.Identifier.{Identifier}
use Rattle.c_tree.specs.declared.typed_word.Home.{Home}
use Rattle.c_tree.specs.declared.typed_word.Home.TheVariants as home
use Rattle.c_typing.specs.declared.declared.Declared.{Declared}
use Rattle.c_typing.specs.declared.declared.Declared.TheVariants as declared
use Rattle.c_typing.specs.Assignments.{count_global}
use Rattle.c_typing.specs.Scopes.{Name, Scopes, here, entry_of, with_name, without_innermost, declaring, place_among, is_complete_at}
use Rattle.c_typing.specs.Settled.{IsThere}
use Rattle.c_typing_unique.specs.Sameness.{HasOwnFunctions}
use Rattle.c_typing_given.proofs.Settling.{small-kept}
use Rattle.c_typing_given.proofs.TypeGiven.{le_true, none-same}
use Rattle.c_rules_alike.proofs.TypesAlike.{complete-over}
use Rattle.c_unit_rules_alike.proofs.InitialiserRules.{complete_size-over}
use Rattle.c_unit_typing.specs.DeclarationJudging.{complete_size, new_in, new_name, linked_name, object_name, count_object, lasting, new_static, declare_object}
use Rattle.c_unit_typing.specs.Initialisers.{with_home}
use Rattle.c_unit_typing.specs.Units.{Known, with_scopes, unless_here, unless_linked, IsLinkedObject}
use Rattle.c_unit_typing.specs.UnitJudged.{state_of, IsLinkedKnown, UnitGoesOn}
use Rattle.c_unit_typing.specs.UnitJudging.{UnitState, UnitOutcome, Gives, known_of}
use Rattle.c_unit_typing.proofs.KeptInitialisers.{complete-kept}
use Rattle.c_unit_typing.proofs.NameSteps.{named_state, linked_state, static_state, named-goes, linked-goes, static-goes}
use Rattle.c_unit_given.proofs.UnitGiven.{IsHomeBelow, AreHomesBelow, IsUnitHere}
use Rattle.c_unit_given.proofs.LevelsBelow.{homes-more}
use Rattle.c_unit_given.proofs.Runs.{then-is}
use Rattle.c_typing.proofs.OpenScopes.{length-innermost, outer-same}

-- the bytes of an object that lives as long as the program, with 16 more
abbrev pub home_cost : Table → Home → TypeId → ℕ
home_cost T (home.Static n) t = size_of T t + 16
home_cost T h t = 0

module _ (T : Table) where
  -- a name was declared
  pub record IsDeclaredGiven (cost : ℕ) (run : UnitOutcome Declared) (s : UnitState) (k' : Known) : Type 0 where
    pub what : Declared
    pub after : UnitState
    pub gives : run ≡ Gives what after
    pub here : IsUnitHere T after
    pub table : after.table ≡ s.table
    pub known : known_of after ≡ k'
    pub node : after.seen.node ≡ s.seen.node
    pub globals : after.seen.globals ≡ s.seen.globals + cost
    pub cells : after.seen.cells ≡ s.seen.cells
    pub outer : without_innermost after.seen.scopes.levels ≡ without_innermost s.seen.scopes.levels

  named_here : (s : UnitState) (name : Name) (what : Declared) → IsUnitHere T s → UnitGoesOn s (named_state s name what) → IsHomeBelow s.seen.node what → IsUnitHere T (named_state s name what)
  named_here s name what here goes low =
      let was = here.open_ in
      let deep = length-innermost (with_name name what) s.seen.scopes.levels in
      record {
        here = record {
          known = goes.known.known;
          first = here.here.first;
          small = small-kept (state_of s) (state_of (named_state s name what)) here.here.small refl refl (omega arith) (λ p. omega (arith, p, deep)) (none-same s.table);
          own = here.here.own;
        };
        unit = goes.known;
        open_ = omega (arith, was, deep);
        homes = homes-more s.seen.node name what s.seen.scopes.levels low here.homes;
      }

  -- the scopes where a name is declared unless it is there
  record IsScopeAfter (s : UnitState) (c : Scopes) : Type 0 where
    open_ : 1 ≤ length c.levels
    homes : AreHomesBelow s.seen.node c.levels
    outer : without_innermost c.levels ≡ without_innermost s.seen.scopes.levels
    members : c.members ≡ s.seen.scopes.members
    defined : c.defined ≡ s.seen.scopes.defined

  unless_after : (s : UnitState) (name : Name) (what : Declared) → IsUnitHere T s → IsHomeBelow s.seen.node what → (o : Option Declared) → IsScopeAfter s (unless_here o name what s.seen.scopes)
  unless_after s name what here low None =
      let was = here.open_ in
      let deep = length-innermost (with_name name what) s.seen.scopes.levels in
      record {
        open_ = omega (arith, was, deep);
        homes = homes-more s.seen.node name what s.seen.scopes.levels low here.homes;
        outer = outer-same (with_name name what) s.seen.scopes.levels;
        members = refl;
        defined = refl;
      }
  unless_after s name what here low (Some first) = record { open_ = here.open_; homes = here.homes; outer = refl; members = refl; defined = refl }

  own_at : (c d : Scopes) → d.defined ≡ c.defined → HasOwnFunctions c → HasOwnFunctions d
  own_at c d h own name number q = own name number (ap (λ (names : List Name). place_among names name) (sym h) ∙ q)

  linked_here : (s : UnitState) (name : Name) (what : Declared) → IsUnitHere T s → UnitGoesOn s (linked_state s name what) → IsHomeBelow s.seen.node what
      → IsUnitHere T (linked_state s name what) × (without_innermost (linked_state s name what).seen.scopes.levels ≡ without_innermost s.seen.scopes.levels)
  linked_here s name what here goes low =
      let r : UnitState = linked_state s name what in
      let f = unless_after s name what here low (Rattle.c_typing.specs.Scopes.here s.seen.scopes.levels name) in (
        record {
          here = record {
            known = goes.known.known;
            first = here.here.first;
            small = small-kept (state_of s) (state_of r) here.here.small f.members f.defined (omega arith) (λ p. let some = f.open_ in omega (arith, some)) (none-same s.table);
            own = own_at s.seen.scopes r.seen.scopes f.defined here.here.own;
          };
          unit = goes.known;
          open_ = f.open_;
          homes = f.homes;
        },
        f.outer,
      )

  pub static-here : (s : UnitState) (g : ℕ) (n : NodeId) → IsUnitHere T s → IsUnitHere T (static_state s g n)
  static-here s g n here = record {
    here = record {
      known = (static-goes g n s here.unit).known.known;
      first = here.here.first;
      small = small-kept (state_of s) (state_of (static_state s g n)) here.here.small refl refl (omega arith) (λ p. p) (none-same s.table);
      own = here.here.own;
    };
    unit = (static-goes g n s here.unit).known;
    open_ = here.open_;
    homes = here.homes;
  }

  -- Judging

  new_name_is : (name : Identifier) (what : Declared) (s : UnitState) → Rattle.c_typing.specs.Scopes.here s.seen.scopes.levels name.bytes ≡ None
      → new_name name what s ≡ Gives what (named_state s name.bytes what)
  unfolding new_name
  new_name_is name what s h = ap (λ (o : Option Declared). new_in name what o s) h

  linked_name_is : (name : Identifier) (what : Declared) (s : UnitState) → linked_name name what s ≡ Gives what (linked_state s name.bytes what)
  unfolding linked_name
  linked_name_is name what s = refl

  counted_is : (at : Place) (bytes : ℕ) (s : UnitState) → s.seen.globals + (bytes + 16) ≤ 4194304
      → count_object at (Some bytes) s ≡ Gives bytes (record s { seen = record s.seen { globals = s.seen.globals + (bytes + 16) } })
  unfolding count_object count_global
  counted_is at bytes s h = rw (le_true (s.seen.globals + (bytes + 16)) 4194304 h) refl

  size_there : (s : UnitState) (t : TypeId) → IsUnitHere T s → IsComplete s.table t → complete_size s.table t ≡ Some (size_of T t)
  size_there s t here c =
      complete_size-over s.table T here.here.first here.here.known.basic t c
      ∙ ap (λ (b : Bool). if b then Some (size_of T t) else None) (complete-kept s.table T here.here.first here.here.known.basic t c)

  new_static_is : (name : Identifier) (n : NodeId) (t : TypeId) (s : UnitState) → IsUnitHere T s → IsComplete s.table t → s.seen.globals + (size_of T t + 16) ≤ 4194304
      → new_static name n t s ≡ Gives n (static_state s (s.seen.globals + (size_of T t + 16)) n)
  unfolding new_static lasting
  new_static_is name n t s here c room =
      let m : UnitState = record s { seen = record s.seen { globals = s.seen.globals + (size_of T t + 16) } } in
      then-is (λ (q : UnitState). count_object name.place (complete_size q.table t) q) (λ bytes. lasting n) (size_of T t) s m (Gives n (static_state s (s.seen.globals + (size_of T t + 16)) n))
      (ap (λ (o : Option ℕ). count_object name.place o s) (size_there s t here c) ∙ counted_is name.place (size_of T t) s room) refl

  -- a home that was made was given out
  abbrev pub IsMadeBelow : ℕ → Home → Type 0
  IsMadeBelow n (home.Static m) = m.0 < n
  IsMadeBelow n (home.Local m) = m.0 < n
  IsMadeBelow n h = Unit {0}

  module _ (name : Identifier) (t : TypeId) (s : UnitState) (k' : Known) (here : IsUnitHere T s) (there : IsType s.table t) where
    pub whole-type : is_complete_at T s.seen.scopes t ≡ true → IsComplete s.table t
    whole-type c = here.here.known.followed t (complete-over s.table T here.here.first here.here.known.basic s.seen.scopes t there ∙ c)

    -- a new name without a home of its own to be counted
    pub new-given : (what : Declared) (run : UnitOutcome Declared) → run ≡ new_name name what s → IsThere s.table what → IsHomeBelow s.seen.node what
        → Rattle.c_typing.specs.Scopes.here s.seen.scopes.levels name.bytes ≡ None → k' ≡ with_scopes (known_of s) (declaring name.bytes what s.seen.scopes) → IsDeclaredGiven 0 run s k'
    new-given what run q i low fresh after = record {
      what = what;
      after = named_state s name.bytes what;
      gives = q ∙ new_name_is name what s fresh;
      here = named_here s name.bytes what here (named-goes name.bytes what s here.unit i) low;
      table = refl;
      known = sym after;
      node = refl;
      globals = omega arith;
      cells = refl;
      outer = outer-same (with_name name.bytes what) s.seen.scopes.levels;
    }

    pub linked-given : (what : Declared) (run : UnitOutcome Declared) → run ≡ linked_name name what s → IsLinkedKnown s what → IsHomeBelow s.seen.node what
        → known_of (linked_state s name.bytes what) ≡ k' → IsDeclaredGiven 0 run s k'
    linked-given what run q i low after =
        let l = linked_here s name.bytes what here (linked-goes name.bytes what s here.unit i) low in
        record {
          what = what;
          after = linked_state s name.bytes what;
          gives = q ∙ linked_name_is name what s;
          here = l.0;
          table = refl;
          known = after;
          node = refl;
          globals = omega arith;
          cells = refl;
          outer = l.1;
        }

    -- what is known where an object with linkage was declared
    abbrev pub known_linked : NodeId → Known
    known_linked n = record (known_of s) {
      scopes = unless_here (Rattle.c_typing.specs.Scopes.here s.seen.scopes.levels name.bytes) name.bytes (declared.Object t n) s.seen.scopes;
      linked = unless_linked (entry_of s.linkage.linked name.bytes) name.bytes (declared.Object t n) s.linkage.linked;
      statics = with_home n s.linkage.statics;
    }

    pub after-linked : (h : Home) (d : IsLinkedObject T name.bytes h t (known_of s) k') (n : NodeId) → n ≡ d.node → known_linked n ≡ k'
    after-linked h d n q =
        ap known_linked q ∙ sym (ap (λ (m : Known). record m { statics = with_home d.node m.statics }) d.linked.after) ∙ sym d.after

    pub static-given : (linked : Bool) (n : NodeId) (run : UnitOutcome Declared) → run ≡ declare_object linked name t (home.Static n) s → IsComplete s.table t → n.0 < s.seen.node
        → s.seen.globals + (size_of T t + 16) ≤ 4194304
        → IsDeclaredGiven 0 (object_name linked name (declared.Object t n) (static_state s (s.seen.globals + (size_of T t + 16)) n)) (static_state s (s.seen.globals + (size_of T t + 16)) n) k'
        → IsDeclaredGiven (size_of T t + 16) run s k'
    unfolding declare_object
    static-given linked n run q c low room d =
        let g : ℕ = s.seen.globals + (size_of T t + 16) in
        let same = d.globals in
        record {
          what = d.what;
          after = d.after;
          gives = q ∙ then-is (new_static name n t) (λ m. object_name linked name (declared.Object t n)) n s (static_state s g n) (Gives d.what d.after) (new_static_is name n t s here c room) d.gives;
          here = d.here;
          table = d.table;
          known = d.known;
          node = d.node;
          globals = omega (arith, same);
          cells = d.cells;
          outer = d.outer;
        }
