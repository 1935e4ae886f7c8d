-- Forms of places that are in shape: what is known of the address, and what comes after.
use Rattle.std.proofs.Common.{ℕ, suc, ◌<◌, ◌≡◌, ◌⊎◌, inl, inr, ap, ◌∙◌, sym, subst, List, [], ◌∷◌, ◌++◌, arith, Option, Some, None, IsSome, append_assoc}
use Rattle.std.specs.List.{Contains}
use Rattle.std.proofs.lemmas.List.{append-nil}
use Rattle.cc_base.specs.declared.place.Place.{Place}
use Rattle.cc_base.specs.declared.number.NodeId.{NodeId}
use Rattle.cc_base.specs.declared.number.TypeId.{TypeId}
use Rattle.kind_sites.specs.declared.site.Site.TheVariants as site
use Rattle.c_types.specs.Table.{IsAggregate}
use Rattle.cil_form.specs.declared.number.Temp.{Temp}
use Rattle.cil_form.specs.declared.instr.Access.TheVariants as access
use Rattle.cil_form.specs.declared.instr.Set.TheVariants as set
use Rattle.cil_form.specs.declared.instr.Target.TheVariants as target
use Rattle.cil_form.specs.declared.instr.Instr.{Instr}
use Rattle.cil_form.specs.declared.instr.Instr.TheVariants as instr
use Rattle.cil_form.specs.Typing.{HeldType, PointerTo, PlaceOf, Typing, Context, Includes, with_held, held_by, HoldsAddress, IsScalar, IsTemp, IsObjectType, IsNode, IsShaped, AreShaped}
use Rattle.cil_form.proofs.TypingLaws.{includes-all, held-shaped}
use Rattle.lower_rules.specs.declared.after.After.TheVariants as after
use Rattle.lower_rules.specs.Pieces.{Form, Line, Then, Choice}
use Rattle.lower_rules.specs.Words.{value, store_code, Follows}
use Rattle.lower_shape.proofs.Forms.{Agrees, agrees-then, agrees-lower, IsHeld, is-held, held-as, AllLead, Carries, head, behind, behind-agrees, behind-same, behind-known, scalar-held}

-- Behind the code x is known of value j, and below it what S knows: whatever follows is in shape where that is known.
abbrev pub Ends : Context → ℕ → Option HeldType → Typing → List Instr → Typing → Type 0
Ends k j x S code T = (final : Typing) (rest : List Instr) → ((V : Typing) → Agrees j S V → IsHeld x (V (value j)) → AreShaped rest k V final)
    → AreShaped (code ++ rest) k T final

-- Code leads to an address in value t that G tells of, with its node: with what comes after, which ends where that is known, it ends.
abbrev pub LeadsPlace : Context → ℕ → (NodeId → Option HeldType → Type 0) → (NodeId → Form) → List Instr → Type 0
LeadsPlace k t G next code = (j : ℕ) (x : Option HeldType) (S T : Typing)
    → ((n : NodeId) (c : List Instr) → next n c → (U : Typing) → Agrees t T U → G n (U (value t)) → Ends k j x S c U) → Ends k j x S code T

-- all code of the form does
abbrev pub AllPlace : Context → Form → ℕ → (NodeId → Option HeldType → Type 0) → (NodeId → Form) → Type 0
AllPlace k P t G next = (c : List Instr) → P c → LeadsPlace k t G next c

-- less may be told
pub place-less : (k : Context) (P : Form) (t : ℕ) (G H : NodeId → Option HeldType → Type 0) (next : NodeId → Form)
    → ((n : NodeId) (y : Option HeldType) → G n y → H n y) → AllPlace k P t G next → AllPlace k P t H next
place-less k P t G H next m h c d j x S T go = h c d j x S T (λ n e f U a g. go n e f U a (m n (U (value t)) g))

-- an address that an expression gives
pub place-value : (k : Context) (P : Form) (Y : Option HeldType) (t : ℕ) (n : NodeId) (G : NodeId → Option HeldType → Type 0) (next : NodeId → Form)
    → ((y : Option HeldType) → IsHeld Y y → G n y) → AllLead k P t Y → AllPlace k (Then P (next n)) t G next
unfolding Then
place-value k P Y t n G next g h c d j x S T go final rest last =
    subst (λ z. AreShaped (z ++ rest) k T final) (sym d.4)
    (subst (λ z. AreShaped z k T final) (sym (append_assoc d.0 d.1 rest))
    (h d.0 d.2 T final (d.1 ++ rest) (λ U a e. go n d.1 d.3 U a (g (U (value t)) e) final rest last)))

-- what comes after leads to a value
pub place-carries : (k : Context) (P : Form) (t : ℕ) (G : NodeId → Option HeldType → Type 0) (next : NodeId → Form) (x : Option HeldType)
    → AllPlace k P t G next
    → ((n : NodeId) → Carries k (next n) t (G n) x) → AllLead k P t x
place-carries k P t G next x h l c d T final rest go =
    h c d t x T T (λ n e q U a g final rest nx. l n e q T U final rest a g nx) final rest go

-- a choice between two places, each with what comes after
pub place-choice : (k : Context) (P Q R : Form) (Y : Option HeldType) (t : ℕ) → t < 256 → IsSome Y → (G H J : NodeId → Option HeldType → Type 0)
    (next : NodeId → Form) → ((n : NodeId) (y : Option HeldType) → G n y → J n y) → ((n : NodeId) (y : Option HeldType) → H n y → J n y)
    → AllLead k P t Y → AllPlace k Q t G next → AllPlace k R t H next → AllPlace k (Then P (Choice (value t) Q R)) t J next
unfolding Then Choice
place-choice k P Q R Y t small some G H J next g h p l r c d j x S T go final rest last =
    subst (λ z. AreShaped (z ++ rest) k T final) (sym (d.4 ∙ ap (λ z. d.0 ++ z) d.3.4))
    (subst (λ z. AreShaped z k T final) (sym (append_assoc d.0 (instr.If (value t) d.3.0 d.3.1 ∷ []) rest))
    (p d.0 d.2 T final (instr.If (value t) d.3.0 d.3.1 ∷ rest) (λ U u e. (
      behind j x S,
      (
        scalar-held Y t U small some e,
        held-shaped d.3.0 k U (behind j x S) (subst (λ z. AreShaped z k U (behind j x S)) (append-nil d.3.0.0.items)
            (l d.3.0.0.items d.3.2 j x S U (λ n c m V v z. go n c m V (agrees-then t T U V u v) (g n (V (value t)) z)) (behind j x S) []
            (λ V v z. behind-known j x S V v z))),
        held-shaped d.3.1 k U (behind j x S) (subst (λ z. AreShaped z k U (behind j x S)) (append-nil d.3.1.0.items)
            (r d.3.1.0.items d.3.3 j x S U (λ n c m V v z. go n c m V (agrees-then t T U V u v) (h n (V (value t)) z)) (behind j x S) []
            (λ V v z. behind-known j x S V v z))),
      ),
      last (behind j x S) (behind-agrees j x S) (subst (λ z. IsHeld x z) (sym (behind-same j x S)) (is-held x)),
    ))))

-- a place behind an expression
pub place-comma : (k : Context) (P Q : Form) (Y : Option HeldType) (t : ℕ) (G : NodeId → Option HeldType → Type 0) (next : NodeId → Form)
    → AllLead k P t Y → AllPlace k Q t G next → AllPlace k (Then P Q) t G next
unfolding Then
place-comma k P Q Y t G next p q c d j x S T go final rest last =
    subst (λ z. AreShaped (z ++ rest) k T final) (sym d.4)
    (subst (λ z. AreShaped z k T final) (sym (append_assoc d.0 d.1 rest))
    (p d.0 d.2 T final (d.1 ++ rest) (λ U u e. q d.1 d.3 j x S U (λ n c m V v z. go n c m V (agrees-then t T U V u v) z) final rest last)))

-- Addresses that are known

-- a pointer of the node to t, or a place of t with it
abbrev pub IsAddressOf : NodeId → TypeId → Option HeldType → Type 0
IsAddressOf n t y = (y ≡ Some (PointerTo n t)) ⊎ (y ≡ Some (PlaceOf n t))

pub holds-address : (U : Typing) (t : ℕ) (n : NodeId) (ty : TypeId) → t < 256 → IsAddressOf n ty (U (value t)) → HoldsAddress U (value t) n ty
holds-address U t n ty small (inl e) = inl (small, e)
holds-address U t n ty small (inr e) = inr (small, e)

pub address-kept : (U V : Typing) (t : ℕ) (n : NodeId) (ty : TypeId) → V (value t) ≡ U (value t) → IsAddressOf n ty (U (value t))
    → IsAddressOf n ty (V (value t))
address-kept U V t n ty e (inl h) = inl (e ∙ h)
address-kept U V t n ty e (inr h) = inr (e ∙ h)

-- an instruction that leaves its value in a temporary, and one that leaves none
pub sets : (k : Context) (i : Instr) (u : Temp) (x : Option HeldType) (T final : Typing) (rest : List Instr)
    → ((after : Typing) → Includes (with_held u x T) after → IsShaped i k T after)
    → AreShaped rest k (with_held u x T) final → AreShaped (i ∷ rest) k T final
sets k i u x T final rest h next = (with_held u x T, h (with_held u x T) (includes-all (with_held u x T)), next)

pub effects : (k : Context) (i : Instr) (T final : Typing) (rest : List Instr) → IsShaped i k T T → AreShaped rest k T final
    → AreShaped (i ∷ rest) k T final
effects k i T final rest h next = (T, h, next)

-- Assignments

-- what is used of a place: its node is the program's, and its address is known
abbrev pub IsUsable : Context → TypeId → (NodeId → Option HeldType → Type 0) → Type 0
IsUsable k ty G = (n : NodeId) (y : Option HeldType) → G n y → IsNode k n × IsAddressOf n ty y

-- a copy of a temporary into value t
pub copied : (k : Context) (t : ℕ) (from : Temp) (X : Option HeldType) (S V final : Typing) (rest : List Instr) → t < 256 → IsTemp from → V from ≡ X
    → Agrees t S V
    → ((U : Typing) → Agrees t S U → IsHeld X (U (value t)) → AreShaped rest k U final)
    → AreShaped (instr.Set (set.Copy (value t) from) ∷ rest) k V final
copied k t from X S V final rest small there e a next =
    head k (instr.Set (set.Copy (value t) from)) t X S V final rest a
    (λ after g. (there, (small, subst (λ z. Includes (with_held (value t) z V) after) (sym e) g))) next

pub assigned : (k : Context) (Q : Form) (n : NodeId) (G : Option HeldType → Type 0) (ty : TypeId) (t : ℕ) (own at : Place) → suc t < 256
    → IsScalar k ty
    → ((y : Option HeldType) → G y → IsNode k n × IsAddressOf n ty y) → AllLead k Q (suc t) (held_by k ty)
    → Carries k (Then Q (Line (store_code n ty own at t (value (suc t)) (value (suc t))))) t G (held_by k ty)
unfolding Then Line
assigned k Q n G ty t own at small scalar usable q c d T U final rest a g next =
    subst (λ z. AreShaped (z ++ rest) k U final) (sym (d.4 ∙ ap (λ z. d.0 ++ z) d.3))
    (subst (λ z. AreShaped z k U final) (sym (append_assoc d.0 (S ∷ C ∷ []) rest))
    (q d.0 d.2 U final (S ∷ C ∷ rest) (λ V b f.
    let known = held-as (held_by k ty) (V (value (suc t))) f scalar.1 in
    effects k S V final (C ∷ rest) (
      (
        (
          (usable (U (value t)) g).0,
          holds-address V t n ty (omega (arith, small)) (address-kept U V t n ty (b (value t) (omega arith)) (usable (U (value t)) g).1),
        ),
        (scalar, small, known),
        includes-all V,
      ),
      tt,
    )
    (copied k t (value (suc t)) (held_by k ty) T V final rest (omega (arith, small)) small known
    (agrees-then t T U V a (agrees-lower t U V b)) next))))
  where
    S : Instr
    S = instr.Access (access.Store (target.Pointer (value t) n) (value (suc t)) ty own at)

    C : Instr
    C = instr.Set (set.Copy (value t) (value (suc t)))

-- Copies of structs

pub struct-assigned : (k : Context) (t : ℕ) (P : Form) (Q : NodeId → Form) (G H : NodeId → Option HeldType → Type 0) (next : NodeId → Form)
    (ty : TypeId)
    (to_place from_place at : Place) → suc t < 256 → IsObjectType k ty → IsAggregate k.table ty → IsUsable k ty G → IsUsable k ty H
    → ((n m : NodeId) (x y : Option HeldType) → G n x → H m y → Contains k.sites (site.Linked n m))
    → ((n : NodeId) → AllPlace k (Q n) (suc t) H (Follows (after.Copy (target.Pointer (value t) n) to_place from_place ty at) (suc t)))
    → AllPlace k P t G (λ n. Then (Q n) (next n)) → AllPlace k P t G next
unfolding Then Line Follows
struct-assigned k t P Q G H next ty to_place from_place at small object aggregate ug uh linked q h c given j x S T go =
    h c given j x S T (λ n e d U a g final rest last.
    subst (λ z. AreShaped (z ++ rest) k U final) (sym d.4)
    (subst (λ z. AreShaped z k U final) (sym (append_assoc d.0 d.1 rest))
    (q n d.0 d.2 (suc t) None U U (λ m e l V b g2 final2 rest2 last2.
    subst (λ z. AreShaped (z ++ rest2) k V final2) (sym l)
    (effects k (instr.Access (access.Copy (target.Pointer (value t) n) to_place (value (suc t)) m from_place ty at)) V final2 rest2 (
      (
        (uh m (V (value (suc t))) g2).0,
        object,
        aggregate,
        (
          (ug n (U (value t)) g).0,
          holds-address V t n ty (omega (arith, small))
              (address-kept U V t n ty (b (value t) (omega arith)) (ug n (U (value t)) g).1),
        ),
        holds-address V (suc t) m ty small (uh m (V (value (suc t))) g2).1,
        includes-all V,
      ),
      (linked n m (U (value t)) (V (value (suc t))) g g2, tt),
    )
    (last2 V b tt))) final (d.1 ++ rest)
    (λ V b _. go n d.1 d.3 V (agrees-then t T U V a (agrees-lower t U V b))
    (subst (λ z. G n z) (sym (b (value t) (omega arith))) g) final rest last))))
