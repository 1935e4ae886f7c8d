-- Calls of the runtime functions that make no block keep the facts.
use Rattle.std.proofs.Common.{◌≡◌, ℕ, zero, suc, ℤ, pos, negsuc, ◌<◌, List, [], ◌∷◌, Option, None, Some, slice_get, slice_index, refl, subst, arith}
use Rattle.std.proofs.lemmas.Bool.Decides.{nat_tests}
use Rattle.flat_mem.specs.Bytes.{AreBytes}
use Rattle.integers.specs.Words.{residue}
use Rattle.integers.specs.Arithmetic.{int, converted}
use Rattle.integers.proofs.WordLaws.{residue-below}
use Rattle.runs.specs.Input.{Input, Closed, Open}
use Rattle.runs.specs.Outcome.{done}
use Rattle.src_mem.specs.Pointers.{Value, Integer, Address}
use Rattle.src_mem.specs.State.{State, bytes_of}
use Rattle.src_mem.specs.Primitives.{next_byte, past, get}
use Rattle.src_mem.specs.Runtime.{free, getchar, putchar, exits}
use Rattle.src_mem.specs.Laws.{Gives}
use Rattle.facts_kept.proofs.Giving.{gives-from}
use Rattle.facts_kept.proofs.Later.{later-same}
use Rattle.cil_form.specs.declared.instr.RuntimeCall.{RuntimeCall}
use Rattle.cil_form.specs.declared.instr.RuntimeCall.TheVariants as runtime
use Rattle.cil_form.specs.declared.instr.Instr.TheVariants as instr
use Rattle.cil_form.specs.State.{Local, Around}
use Rattle.cil_form.specs.Typing.{IntegerOf, Typing, Context, IsShaped}
use Rattle.cil_form.specs.Meaning.{act}
use Rattle.cil_form.proofs.AskedLaws.{instr-asked}
use Rattle.cil_facts.specs.Held.{IsHeldAs, IsSolvedFor, AreFacts, AreFactsBehind, GoesOn}
use Rattle.cil_facts.proofs.Conversions.{Given, goes-held}
use Rattle.cil_facts.proofs.Later.{GivesLater, goes-later}

-- a byte is an int, and so is what stands for the end of the input
byte-fits : (n : ℕ) → n < 256 → converted int (pos n) ≡ pos n
byte-fits n h = grind (arith, nat_tests)

end-fits : converted int (negsuc 0) ≡ negsuc 0
end-fits = refl

module _ (k : Context) (a : Around) (solved : IsSolvedFor k a.setting) (types after : Typing) (c : Local) (facts : AreFacts k a types c) where
  abbrev Read : ℤ → State → Type 0
  Read z r = (r.memory ≡ c.state.memory) × (converted int z ≡ z)

  byte-of : (bytes : List ℕ) (i b : ℕ) → AreBytes bytes → slice_get bytes i ≡ Some b → b < 256
  byte-of bytes i b h e = subst (λ n. n < 256) (there bytes i e) (h.below i)
    where
      there : (l : List ℕ) (j : ℕ) → slice_get l j ≡ Some b → slice_index l j ≡ b
      there [] j e = absurd (cc (e))
      there (x ∷ l) zero e = cc (e)
      there (x ∷ l) (suc j) e = there l j e

  get-given : AreBytes (bytes_of c.state.input) → Gives (get c.state) Read
  get-given bytes = by (slice_get (bytes_of c.state.input) c.state.read) refl
    where
      behind : (i : Input) → Gives (past i c.state) Read
      behind (Closed b) = (refl, end-fits)
      behind (Open b) = tt

      by : (r : Option ℕ) → slice_get (bytes_of c.state.input) c.state.read ≡ r → Gives (next_byte c.state.input r c.state) Read
      by None e = behind c.state.input
      by (Some b) e = (refl, byte-fits b (byte-of (bytes_of c.state.input) c.state.read b bytes e))

  put-given : (v : Value) → IsHeldAs a.setting k.sites c.state.memory a.depth (IntegerOf int) v
      → Gives (putchar (v ∷ []) c.state) (Given k a solved types after c facts (IntegerOf int))
  put-given (Address p) h = absurd h
  put-given (Integer z) h = (refl, byte-fits (residue z 256) (residue-below z 256 (omega arith)))

  exit-given : (v : Value) → IsHeldAs a.setting k.sites c.state.memory a.depth (IntegerOf int) v → Gives (exits (v ∷ []) c.state) (GivesLater k a c None)
  exit-given (Address p) h = absurd h
  exit-given (Integer z) h = tt

  nothing : GivesLater k a c None (Integer (pos 0)) c.state
  nothing = record {
    sound = facts.memory;
    later = later-same a.depth c.state.memory.objects c.state.memory.objects refl refl;
    held = λ x e. absurd (cc (e));
  }

  pub runtime-keeps : (i : RuntimeCall) → AreBytes (bytes_of c.state.input) → IsShaped (instr.Runtime i) k types after
      → GoesOn (act (instr.Runtime i) a c) (AreFactsBehind k a after c)
  runtime-keeps (runtime.Free into p) bytes s =
      goes-later k a types after c facts (instr-asked (instr.Runtime (runtime.Free into p)) k types after solved.tells facts.asked s) into None
      (free (c.temps p ∷ []) c.state) s.1 nothing
  runtime-keeps (runtime.Getchar into) bytes s =
      goes-held k a solved types after c facts (instr.Runtime (runtime.Getchar into)) into (IntegerOf int) (getchar [] c.state) s s
      (gives-from Read (Given k a solved types after c facts (IntegerOf int)) (get c.state) (λ z. done (Integer z)) (get-given bytes) (λ z r g. g))
  runtime-keeps (runtime.Putchar into v) bytes s =
      goes-held k a solved types after c facts (instr.Runtime (runtime.Putchar into v)) into (IntegerOf int) (putchar (c.temps v ∷ []) c.state) s s.1
      (put-given (c.temps v) (facts.held v (IntegerOf int) s.0.1))
  runtime-keeps (runtime.Exit into v) bytes s =
      goes-later k a types after c facts (instr-asked (instr.Runtime (runtime.Exit into v)) k types after solved.tells facts.asked s) into None
      (exits (c.temps v ∷ []) c.state) s.1 (exit-given (c.temps v) (facts.held v (IntegerOf int) s.0.1))
