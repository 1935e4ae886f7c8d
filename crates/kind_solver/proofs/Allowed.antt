use Rattle.std.proofs.Common.{Bool, ◌≡◌, ◌⊎◌, refl, inl, inr, IsTrue}
use Rattle.std.proofs.lemmas.Bool.{false≢true}
use Rattle.cc_base.specs.declared.kind.Kind.{Kind}
use Rattle.cc_base.specs.declared.kind.Kind.TheVariants.{Safe, Seq, Rtti, Wild}
use Rattle.c_types.specs.declared.flow_class.FlowClass.{FlowClass}
use Rattle.c_types.specs.declared.flow_class.FlowClass.TheVariants as class
use Rattle.kind_solver.specs.Constraints.{allows}

-- What the table of allowed flows says of one end of a flow, given the other.

abbrev pub MayMove : Kind → Type 0
MayMove kind = (kind ≡ Seq) ⊎ (kind ≡ Wild)

safe_rests : MayMove Safe → ⊥
safe_rests m = elim m [ inl e ↦ cc | inr e ↦ cc ]

rtti_rests : MayMove Rtti → ⊥
rtti_rests m = elim m [ inl e ↦ cc | inr e ↦ cc ]

pub move_back : (a b : Kind) (k : FlowClass) (below : Bool) → IsTrue (allows a b k below) → MayMove b → MayMove a
move_back Safe Safe k below h m = absurd (safe_rests m)
move_back Safe Seq k below h m = absurd (false≢true h)
move_back Safe Rtti k below h m = absurd (rtti_rests m)
move_back Safe Wild k below h m = absurd (false≢true h)
move_back Seq Safe k below h m = inl refl
move_back Seq Seq k below h m = inl refl
move_back Seq Rtti k below h m = inl refl
move_back Seq Wild k below h m = inl refl
move_back Rtti Safe k below h m = absurd (safe_rests m)
move_back Rtti Seq k below h m = absurd (false≢true h)
move_back Rtti Rtti k below h m = absurd (rtti_rests m)
move_back Rtti Wild k below h m = absurd (false≢true h)
move_back Wild Safe k below h m = inr refl
move_back Wild Seq k below h m = inr refl
move_back Wild Rtti k below h m = inr refl
move_back Wild Wild k below h m = inr refl

pub wild_on : (a b : Kind) (k : FlowClass) (below : Bool) → IsTrue (allows a b k below) → a ≡ Wild → b ≡ Wild
wild_on Safe Safe k below h e = cc
wild_on Safe Seq k below h e = cc
wild_on Safe Rtti k below h e = cc
wild_on Safe Wild k below h e = refl
wild_on Seq Safe k below h e = cc
wild_on Seq Seq k below h e = cc
wild_on Seq Rtti k below h e = cc
wild_on Seq Wild k below h e = refl
wild_on Rtti Safe k below h e = cc
wild_on Rtti Seq k below h e = cc
wild_on Rtti Rtti k below h e = cc
wild_on Rtti Wild k below h e = refl
wild_on Wild Safe k below h e = absurd (false≢true h)
wild_on Wild Seq k below h e = absurd (false≢true h)
wild_on Wild Rtti k below h e = absurd (false≢true h)
wild_on Wild Wild k below h e = refl

pub wild_back : (a b : Kind) (k : FlowClass) (below : Bool) → IsTrue (allows a b k below) → b ≡ Wild → a ≡ Wild
wild_back Safe Safe k below h e = cc
wild_back Safe Seq k below h e = cc
wild_back Safe Rtti k below h e = cc
wild_back Safe Wild k below h e = absurd (false≢true h)
wild_back Seq Safe k below h e = cc
wild_back Seq Seq k below h e = cc
wild_back Seq Rtti k below h e = cc
wild_back Seq Wild k below h e = absurd (false≢true h)
wild_back Rtti Safe k below h e = cc
wild_back Rtti Seq k below h e = cc
wild_back Rtti Rtti k below h e = cc
wild_back Rtti Wild k below h e = absurd (false≢true h)
wild_back Wild Safe k below h e = refl
wild_back Wild Seq k below h e = refl
wild_back Wild Rtti k below h e = refl
wild_back Wild Wild k below h e = refl

pub bad_wild : (a b : Kind) (below : Bool) → IsTrue (allows a b class.Bad below) → (a ≡ Wild) × (b ≡ Wild)
bad_wild Safe Safe below h = absurd (false≢true h)
bad_wild Safe Seq below h = absurd (false≢true h)
bad_wild Safe Rtti below h = absurd (false≢true h)
bad_wild Safe Wild below h = absurd (false≢true h)
bad_wild Seq Safe below h = absurd (false≢true h)
bad_wild Seq Seq below h = absurd (false≢true h)
bad_wild Seq Rtti below h = absurd (false≢true h)
bad_wild Seq Wild below h = absurd (false≢true h)
bad_wild Rtti Safe below h = absurd (false≢true h)
bad_wild Rtti Seq below h = absurd (false≢true h)
bad_wild Rtti Rtti below h = absurd (false≢true h)
bad_wild Rtti Wild below h = absurd (false≢true h)
bad_wild Wild Safe below h = absurd (false≢true h)
bad_wild Wild Seq below h = absurd (false≢true h)
bad_wild Wild Rtti below h = absurd (false≢true h)
bad_wild Wild Wild below h = (refl, refl)

pub up_into : (a b : Kind) (below : Bool) → IsTrue (allows a b class.Up below) → MayMove b → (a ≡ Wild) × (b ≡ Wild)
up_into Safe Safe below h m = absurd (safe_rests m)
up_into Safe Seq below h m = absurd (false≢true h)
up_into Safe Rtti below h m = absurd (rtti_rests m)
up_into Safe Wild below h m = absurd (false≢true h)
up_into Seq Safe below h m = absurd (safe_rests m)
up_into Seq Seq below h m = absurd (false≢true h)
up_into Seq Rtti below h m = absurd (rtti_rests m)
up_into Seq Wild below h m = absurd (false≢true h)
up_into Rtti Safe below h m = absurd (safe_rests m)
up_into Rtti Seq below h m = absurd (false≢true h)
up_into Rtti Rtti below h m = absurd (rtti_rests m)
up_into Rtti Wild below h m = absurd (false≢true h)
up_into Wild Safe below h m = absurd (safe_rests m)
up_into Wild Seq below h m = absurd (false≢true h)
up_into Wild Rtti below h m = absurd (rtti_rests m)
up_into Wild Wild below h m = (refl, refl)

pub down_into : (a b : Kind) (below : Bool) → IsTrue (allows a b class.Down below) → MayMove b → (a ≡ Wild) × (b ≡ Wild)
down_into Safe Safe below h m = absurd (safe_rests m)
down_into Safe Seq below h m = absurd (false≢true h)
down_into Safe Rtti below h m = absurd (rtti_rests m)
down_into Safe Wild below h m = absurd (false≢true h)
down_into Seq Safe below h m = absurd (safe_rests m)
down_into Seq Seq below h m = absurd (false≢true h)
down_into Seq Rtti below h m = absurd (rtti_rests m)
down_into Seq Wild below h m = absurd (false≢true h)
down_into Rtti Safe below h m = absurd (safe_rests m)
down_into Rtti Seq below h m = absurd (false≢true h)
down_into Rtti Rtti below h m = absurd (rtti_rests m)
down_into Rtti Wild below h m = absurd (false≢true h)
down_into Wild Safe below h m = absurd (safe_rests m)
down_into Wild Seq below h m = absurd (false≢true h)
down_into Wild Rtti below h m = absurd (rtti_rests m)
down_into Wild Wild below h m = (refl, refl)

pub down_out : (a b : Kind) (below : Bool) → IsTrue (allows a b class.Down below) → MayMove a → (a ≡ Wild) × (b ≡ Wild)
down_out Safe Safe below h m = absurd (safe_rests m)
down_out Safe Seq below h m = absurd (safe_rests m)
down_out Safe Rtti below h m = absurd (safe_rests m)
down_out Safe Wild below h m = absurd (safe_rests m)
down_out Seq Safe below h m = absurd (false≢true h)
down_out Seq Seq below h m = absurd (false≢true h)
down_out Seq Rtti below h m = absurd (false≢true h)
down_out Seq Wild below h m = absurd (false≢true h)
down_out Rtti Safe below h m = absurd (rtti_rests m)
down_out Rtti Seq below h m = absurd (rtti_rests m)
down_out Rtti Rtti below h m = absurd (rtti_rests m)
down_out Rtti Wild below h m = absurd (rtti_rests m)
down_out Wild Safe below h m = absurd (false≢true h)
down_out Wild Seq below h m = absurd (false≢true h)
down_out Wild Rtti below h m = absurd (false≢true h)
down_out Wild Wild below h m = (refl, refl)

pub tile_out : (a b : Kind) (below : Bool) → IsTrue (allows a b class.Tile below) → MayMove a
tile_out Safe Safe below h = absurd (false≢true h)
tile_out Safe Seq below h = absurd (false≢true h)
tile_out Safe Rtti below h = absurd (false≢true h)
tile_out Safe Wild below h = absurd (false≢true h)
tile_out Seq Safe below h = inl refl
tile_out Seq Seq below h = inl refl
tile_out Seq Rtti below h = inl refl
tile_out Seq Wild below h = inl refl
tile_out Rtti Safe below h = absurd (false≢true h)
tile_out Rtti Seq below h = absurd (false≢true h)
tile_out Rtti Rtti below h = absurd (false≢true h)
tile_out Rtti Wild below h = absurd (false≢true h)
tile_out Wild Safe below h = inr refl
tile_out Wild Seq below h = inr refl
tile_out Wild Rtti below h = inr refl
tile_out Wild Wild below h = inr refl

pub plain_moves : (a : Kind) → (a ≡ Safe) ⊎ (a ≡ Wild) → MayMove a → a ≡ Wild
plain_moves Wild p m = refl
plain_moves Safe p m = absurd (safe_rests m)
plain_moves Rtti p m = absurd (rtti_rests m)
plain_moves Seq p m = elim p [ inl e ↦ cc | inr e ↦ e ]
