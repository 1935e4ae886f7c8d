-- A text is cut in one way, refused by one rule at one place, or neither; and a cut grows by the piece that stands after it.
use Rattle.std.proofs.Common.{◌≡◌, ℕ, ◌<◌, ◌≤◌, List, [], ◌∷◌, ◌++◌, length, take, drop, Option, Result, Ok, Err, refl, sym, ap, ◌∙◌, subst, ⊎_elim, append_assoc, append-nil, arith, length-append}
use Rattle.std.specs.Prelude.{◌==◌}
use Rattle.std.proofs.lemmas.Bool.{and_parts, false≢true}
use Rattle.std.proofs.Math.Seq.{take-append_seam, drop-append_seam}
use Rattle.cc_base.specs.declared.place.Place.{Place}
use Rattle.cc_base.specs.declared.fault.Rule.{Rule}
use Rattle.cc_base.specs.declared.fault.Rule.TheVariants.{BadByte, OpenComment, OpenText, BadNumber, Syntax, Unsupported, UnknownName, Redeclared, Incomplete, Mismatch, NotPlace, NotConstant, BadCall, NoMain}
use Rattle.c_lexer.specs.Bytes.{begins_with}
use Rattle.c_lexer.specs.Cut.{Piece, Blank, BlockComment, LineComment, LineMarker, Spelled, piece_bytes, text_of, Stands, AllStand, tokens_of, IsCutBefore, IsCut, IsRefusal, IsFault, IsRefusedLexeme, is_first_on_line, place_after}
use Rattle.c_lexer.specs.Lexemes.{Begins}
use Rattle.c_lexer.specs.Reading.{step_at, token_list}
use Rattle.c_lexer.specs.Tokens.{Token}
use Rattle.c_lexer.specs.declared.step.Step.{Step}
use Rattle.c_lexer.specs.declared.token.TokenKind.{TokenKind}
use Rattle.c_lexer.proofs.GapLaws.{begins_gives}
use Rattle.c_lexer.proofs.ListLaws.{Fronts, equal, first_shorter, second_shorter, fronts}
use Rattle.c_lexer.proofs.StepLaws.{kind_of, step_of, Explained, stands, faulty, explained, found_piece, found_fault, step_at-empty}

-- Lists.

-- two ways to write a list, whose fronts are as long, have one front and one rest
pub same_fronts : (xs ys us vs : List ℕ) → xs ++ us ≡ ys ++ vs → length xs ≡ length ys → (xs ≡ ys) × (us ≡ vs)
same_fronts xs ys us vs e lengths = decided (fronts xs ys us vs e)
  where
    decided : Fronts xs ys us vs → (xs ≡ ys) × (us ≡ vs)
    decided (equal same rest) = (same, rest)
    decided (first_shorter c more longer rest) = absurd (let l = ap length longer in omega (arith, simp length-append at l, lengths))
    decided (second_shorter c more longer rest) = absurd (let l = ap length longer in omega (arith, simp length-append at l, lengths))

-- The tokens of pieces, one piece after another.

abbrev pub first_token : (before : List ℕ) → Option TokenKind → (bytes : List ℕ) → List Token
first_token before kind bytes = token_list kind bytes (length before) (place_after before)

tokens_of-cons : (before : List ℕ) (piece : Piece) (pieces : List Piece) → tokens_of before (piece ∷ pieces) ≡ first_token before (kind_of piece) (piece_bytes piece) ++ tokens_of (before ++ piece_bytes piece) pieces
tokens_of-cons before (Blank b) pieces = refl
tokens_of-cons before (BlockComment body) pieces = refl
tokens_of-cons before (LineComment body) pieces = refl
tokens_of-cons before (LineMarker line) pieces = refl
tokens_of-cons before (Spelled kind bytes) pieces = refl

text_of-snoc : (pieces : List Piece) (piece : Piece) → text_of (pieces ++ piece ∷ []) ≡ text_of pieces ++ piece_bytes piece
text_of-snoc [] piece = append-nil (piece_bytes piece)
text_of-snoc (p ∷ pieces) piece = ap (λ l. piece_bytes p ++ l) (text_of-snoc pieces piece) ∙ sym (append_assoc (piece_bytes p) (text_of pieces) (piece_bytes piece))

tokens_of-snoc : (before : List ℕ) (pieces : List Piece) (piece : Piece) → tokens_of before (pieces ++ piece ∷ []) ≡ tokens_of before pieces ++ first_token (before ++ text_of pieces) (kind_of piece) (piece_bytes piece)
tokens_of-snoc before [] piece =
    tokens_of-cons before piece [] ∙ append-nil (first_token before (kind_of piece) (piece_bytes piece))
    ∙ ap (λ l. first_token l (kind_of piece) (piece_bytes piece)) (sym (append-nil before))
tokens_of-snoc before (p ∷ pieces) piece =
    let bytes = piece_bytes p in
    let here = first_token before (kind_of p) bytes in
    tokens_of-cons before p (pieces ++ piece ∷ [])
    ∙ ap (λ l. here ++ l) (tokens_of-snoc (before ++ bytes) pieces piece)
    ∙ ap (λ l. here ++ (tokens_of (before ++ bytes) pieces ++ first_token l (kind_of piece) (piece_bytes piece))) (append_assoc before bytes (text_of pieces))
    ∙ sym (append_assoc here (tokens_of (before ++ bytes) pieces) (first_token (before ++ (bytes ++ text_of pieces)) (kind_of piece) (piece_bytes piece)))
    ∙ ap (λ l. l ++ first_token (before ++ (bytes ++ text_of pieces)) (kind_of piece) (piece_bytes piece)) (sym (tokens_of-cons before p pieces))

AllStand-snoc : (before : List ℕ) (pieces : List Piece) (piece : Piece) (after : List ℕ) → AllStand before pieces (piece_bytes piece ++ after) → Stands (before ++ text_of pieces) piece after → AllStand before (pieces ++ piece ∷ []) after
AllStand-snoc before [] piece after all last = (subst (λ l. Stands l piece after) (append-nil before) last, tt)
AllStand-snoc before (p ∷ pieces) piece after all last = (
  subst (Stands before p) (sym (ap (λ l. l ++ after) (text_of-snoc pieces piece) ∙ append_assoc (text_of pieces) (piece_bytes piece) after)) all.0,
  AllStand-snoc (before ++ piece_bytes p) pieces piece after all.1 (subst (λ l. Stands l piece after) (sym (append_assoc before (piece_bytes p) (text_of pieces))) last),
)

-- A cut grows.

cut_more : (text : List ℕ) (tokens : List Token) (front after : List ℕ) (piece : Piece) → IsCutBefore text tokens front (piece_bytes piece ++ after) → Stands front piece after
    → IsCutBefore text (tokens ++ first_token front (kind_of piece) (piece_bytes piece)) (front ++ piece_bytes piece) after
cut_more text tokens front after piece cut stands_here = record {
  pieces = cut.pieces ++ piece ∷ [];
  front_is = ap (λ l. l ++ piece_bytes piece) cut.front_is ∙ sym (text_of-snoc cut.pieces piece);
  whole = cut.whole ∙ sym (append_assoc front (piece_bytes piece) after);
  stand = AllStand-snoc [] cut.pieces piece after cut.stand (subst (λ l. Stands l piece after) cut.front_is stands_here);
  tokens_are =
      ap (λ l. l ++ first_token front (kind_of piece) (piece_bytes piece)) cut.tokens_are
      ∙ ap (λ l. tokens_of [] cut.pieces ++ first_token l (kind_of piece) (piece_bytes piece)) cut.front_is
      ∙ sym (tokens_of-snoc [] cut.pieces piece);
}

pub cut_none : (text : List ℕ) → IsCutBefore text [] [] text
cut_none text = record { pieces = []; front_is = refl; whole = refl; stand = tt; tokens_are = refl }

piece_positive : (before : List ℕ) (piece : Piece) (after : List ℕ) → Stands before piece after → 0 < length (piece_bytes piece)
piece_positive before (Blank b) after s = omega arith
piece_positive before (BlockComment body) after s = omega arith
piece_positive before (LineComment body) after s = omega arith
piece_positive before (LineMarker line) after s =
    let hash = begins_gives 35 line (and_parts (begins_with (λ b. b == 35) line) _ s.2).0 in
    let lengths = ap length hash.1 in
    omega (arith, lengths)
piece_positive before (Spelled kind []) after s = absurd (false≢true s.begins.is_one)
piece_positive before (Spelled kind (b ∷ bytes)) after s = omega arith

-- what a step of the reading does to a cut
pub record CutStep (text : List ℕ) (tokens : List Token) (front rest : List ℕ) (step : Step) : Type 0 where
  pub fits : step.size ≤ length rest
  pub positive : 0 < step.size
  pub cut : IsCutBefore text (tokens ++ first_token front step.kind (take step.size rest)) (front ++ take step.size rest) (drop step.size rest)

pub cut_step : (text : List ℕ) (tokens : List Token) (front : List ℕ) (b : ℕ) (rest : List ℕ) (step : Step) → IsCutBefore text tokens front (b ∷ rest) → step_at (is_first_on_line front) (b ∷ rest) ≡ Ok step → CutStep text tokens front (b ∷ rest) step
cut_step text tokens front b rest step cut found = decided (explained front b rest)
  where
    decided : Explained front (b ∷ rest) (step_at (is_first_on_line front) (b ∷ rest)) → CutStep text tokens front (b ∷ rest) step
    decided (faulty rule fault e) = absurd (ok_err (sym found ∙ e))
      where
        ok_err : ◌≡◌ {A = Result Step Rule} (Ok step) (Err rule) → ⊥
        ok_err h = cc
    decided (stands piece after whole stands_here e) = subst (CutStep text tokens front (b ∷ rest)) (ok_same (sym e ∙ found)) (record {
      fits = (let lengths = ap length whole in omega (arith, simp length-append at lengths));
      positive = piece_positive front piece after stands_here;
      cut = subst (λ l. IsCutBefore text (tokens ++ first_token front (kind_of piece) l) (front ++ l) (drop (length (piece_bytes piece)) (b ∷ rest))) (sym taken) (subst (IsCutBefore text (tokens ++ first_token front (kind_of piece) (piece_bytes piece)) (front ++ piece_bytes piece)) (sym dropped) grown);
    })
      where
        ok_same : {s t : Step} → ◌≡◌ {A = Result Step Rule} (Ok s) (Ok t) → s ≡ t
        ok_same h = cc

        taken : take (length (piece_bytes piece)) (b ∷ rest) ≡ piece_bytes piece
        taken = ap (take (length (piece_bytes piece))) whole ∙ take-append_seam (piece_bytes piece) after

        dropped : drop (length (piece_bytes piece)) (b ∷ rest) ≡ after
        dropped = ap (drop (length (piece_bytes piece))) whole ∙ drop-append_seam (piece_bytes piece) after

        grown : IsCutBefore text (tokens ++ first_token front (kind_of piece) (piece_bytes piece)) (front ++ piece_bytes piece) after
        grown = cut_more text tokens front after piece (subst (IsCutBefore text tokens front) whole cut) stands_here

pub cut_refused : (text : List ℕ) (tokens : List Token) (front : List ℕ) (b : ℕ) (rest : List ℕ) (rule : Rule) → IsCutBefore text tokens front (b ∷ rest) → step_at (is_first_on_line front) (b ∷ rest) ≡ Err rule → IsRefusal text (place_after front) rule
cut_refused text tokens front b rest rule cut found = decided (explained front b rest)
  where
    decided : Explained front (b ∷ rest) (step_at (is_first_on_line front) (b ∷ rest)) → IsRefusal text (place_after front) rule
    decided (faulty other fault e) = record { tokens = tokens; front = front; rest = b ∷ rest; cut = cut; place_is = refl; fault = subst (IsFault front (b ∷ rest)) (err_same (sym e ∙ found)) fault }
      where
        err_same : {r s : Rule} → ◌≡◌ {A = Result Step Rule} (Err r) (Err s) → r ≡ s
        err_same h = cc
    decided (stands piece after whole stands_here e) = absurd (ok_err (sym e ∙ found))
      where
        ok_err : {s : Step} → ◌≡◌ {A = Result Step Rule} (Ok s) (Err rule) → ⊥
        ok_err h = cc

pub cut_all : (text : List ℕ) (tokens : List Token) (front : List ℕ) → IsCutBefore text tokens front [] → IsCut text tokens
cut_all text tokens front cut =
    let same : front ≡ text = sym (cut.whole ∙ append-nil front) in
    subst (λ l. IsCutBefore text tokens l []) same cut

-- There is one cut, or one refusal.

-- the reading goes no further there
abbrev pub Halts : (before rest : List ℕ) → Type 0
Halts before rest = (step : Step) → step_at (is_first_on_line before) rest ≡ Ok step → ⊥

record Meets (before : List ℕ) (ps qs : List Piece) : Type 0 where
  texts : text_of ps ≡ text_of qs
  tokens : tokens_of before ps ≡ tokens_of before qs

-- a piece stands where the reading halts: this cannot be
no_piece : (before : List ℕ) (piece : Piece) (pieces : List Piece) (r s : List ℕ) → Halts (before ++ []) r → r ≡ (piece_bytes piece ++ text_of pieces) ++ s → Stands before piece (text_of pieces ++ s) → ⊥
no_piece before piece pieces r s halts e stands_here =
    halts (step_of piece)
    (ap (λ l. step_at (is_first_on_line l) r) (append-nil before)
    ∙ ap (step_at (is_first_on_line before)) (e ∙ append_assoc (piece_bytes piece) (text_of pieces) s)
    ∙ found_piece before piece (text_of pieces ++ s) stands_here)

meet : (before : List ℕ) (ps qs : List Piece) (r s : List ℕ) → text_of ps ++ r ≡ text_of qs ++ s → AllStand before ps r → AllStand before qs s → Halts (before ++ text_of ps) r → Halts (before ++ text_of qs) s → Meets before ps qs
meet before [] [] r s e all_p all_q halt_p halt_q = record { texts = refl; tokens = refl }
meet before [] (q ∷ qs) r s e all_p all_q halt_p halt_q = absurd (no_piece before q qs r s halt_p e all_q.0)
meet before (p ∷ ps) [] r s e all_p all_q halt_p halt_q = absurd (no_piece before p ps s r halt_q (sym e) all_p.0)
meet before (p ∷ ps) (q ∷ qs) r s e all_p all_q halt_p halt_q =
    let e' : piece_bytes p ++ (text_of ps ++ r) ≡ piece_bytes q ++ (text_of qs ++ s) = sym (append_assoc (piece_bytes p) (text_of ps) r) ∙ e ∙ append_assoc (piece_bytes q) (text_of qs) s in
    let steps : step_of p ≡ step_of q = ok_same (sym (found_piece before p (text_of ps ++ r) all_p.0) ∙ ap (step_at (is_first_on_line before)) e' ∙ found_piece before q (text_of qs ++ s) all_q.0) in
    let same = same_fronts (piece_bytes p) (piece_bytes q) (text_of ps ++ r) (text_of qs ++ s) e' (ap (λ step. step.size) steps) in
    let rest = meet (before ++ piece_bytes p) ps qs r s same.1 all_p.1
    (subst (λ l. AllStand (before ++ l) qs s) (sym same.0) all_q.1)
    (subst (λ l. Halts l r) (sym (append_assoc before (piece_bytes p) (text_of ps))) halt_p)
    (subst (λ l. Halts l s) (sym (append_assoc before (piece_bytes q) (text_of qs)) ∙ ap (λ l. (before ++ l) ++ text_of qs) (sym same.0)) halt_q) in
    record {
      texts = ap (λ l. l ++ text_of ps) same.0 ∙ ap (λ l. piece_bytes q ++ l) rest.texts;
      tokens =
          tokens_of-cons before p ps
          ∙ ap (λ l. first_token before (kind_of p) (piece_bytes p) ++ l) rest.tokens
          ∙ ap (λ k. first_token before k (piece_bytes p) ++ tokens_of (before ++ piece_bytes p) qs) (ap (λ step. step.kind) steps)
          ∙ ap (λ l. first_token before (kind_of q) l ++ tokens_of (before ++ l) qs) same.0
          ∙ sym (tokens_of-cons before q qs);
    }
  where
    ok_same : {j k : Step} → ◌≡◌ {A = Result Step Rule} (Ok j) (Ok k) → j ≡ k
    ok_same h = cc

-- two cuts of a text that go as far as they can are one
cuts_meet : (text : List ℕ) (a b : List Token) (front_a rest_a front_b rest_b : List ℕ) → IsCutBefore text a front_a rest_a → IsCutBefore text b front_b rest_b → Halts front_a rest_a → Halts front_b rest_b → (front_a ≡ front_b) × (a ≡ b)
cuts_meet text a b front_a rest_a front_b rest_b cut_a cut_b halt_a halt_b =
    let met = meet [] cut_a.pieces cut_b.pieces rest_a rest_b
    (ap (λ l. l ++ rest_a) (sym cut_a.front_is) ∙ sym cut_a.whole ∙ cut_b.whole ∙ ap (λ l. l ++ rest_b) cut_b.front_is)
    cut_a.stand cut_b.stand
    (subst (λ l. Halts l rest_a) cut_a.front_is halt_a)
    (subst (λ l. Halts l rest_b) cut_b.front_is halt_b) in
    (cut_a.front_is ∙ met.texts ∙ sym cut_b.front_is, cut_a.tokens_are ∙ met.tokens ∙ sym cut_b.tokens_are)

halts_at : (before rest : List ℕ) (rule : Rule) → step_at (is_first_on_line before) rest ≡ Err rule → Halts before rest
halts_at before rest rule e step found = ok_err (sym found ∙ e)
  where
    ok_err : ◌≡◌ {A = Result Step Rule} (Ok step) (Err rule) → ⊥
    ok_err h = cc

halts_at_end : (before : List ℕ) → Halts before []
halts_at_end before = halts_at before [] BadByte (step_at-empty (is_first_on_line before))

pub one_cut : (text : List ℕ) (a b : List Token) → IsCut text a → IsCut text b → a ≡ b
one_cut text a b cut_a cut_b = (cuts_meet text a b text [] text [] cut_a cut_b (halts_at_end text) (halts_at_end text)).1

pub one_refusal : (text : List ℕ) (place other_place : Place) (rule other_rule : Rule) → IsRefusal text place rule → IsRefusal text other_place other_rule → (place ≡ other_place) × (rule ≡ other_rule)
one_refusal text place other_place rule other_rule r s =
    let found_r = found_fault r.front r.rest rule r.fault in
    let found_s = found_fault s.front s.rest other_rule s.fault in
    let fronts_same = (cuts_meet text r.tokens s.tokens r.front r.rest s.front s.rest r.cut s.cut (halts_at r.front r.rest rule found_r) (halts_at s.front s.rest other_rule found_s)).0 in
    let rests = (same_fronts r.front s.front r.rest s.rest (sym r.cut.whole ∙ s.cut.whole) (ap length fronts_same)).1 in (
      r.place_is ∙ ap place_after fronts_same ∙ sym s.place_is,
      err_same (sym found_r ∙ ap (λ l. step_at (is_first_on_line l) r.rest) fronts_same ∙ ap (step_at (is_first_on_line s.front)) rests ∙ found_s),
    )
  where
    err_same : ◌≡◌ {A = Result Step Rule} (Err rule) (Err other_rule) → rule ≡ other_rule
    err_same h = cc

no_refused_at_end : (rule : Rule) → IsRefusedLexeme [] rule → ⊥
no_refused_at_end rule r = empty r.lexeme r.after r.begins
  where
    empty : (one after : List ℕ) → Begins [] one after → ⊥
    empty [] after begins = false≢true begins.is_one
    empty (x ∷ one) after begins = nil_cons begins.whole
      where
        nil_cons : ◌≡◌ {A = List ℕ} [] (x ∷ (one ++ after)) → ⊥
        nil_cons h = cc

no_fault_at_end : (before : List ℕ) (rule : Rule) → IsFault before [] rule → ⊥
no_fault_at_end before BadByte f = false≢true f
no_fault_at_end before OpenComment f = false≢true f.0
no_fault_at_end before OpenText f = false≢true f.quote
no_fault_at_end before BadNumber f = no_refused_at_end BadNumber f
no_fault_at_end before Unsupported f = ⊎_elim (no_refused_at_end Unsupported) (λ g. ⊎_elim (λ wide. false≢true wide) (λ d. false≢true d.1) g) f
no_fault_at_end before Syntax f = f
no_fault_at_end before UnknownName f = f
no_fault_at_end before Redeclared f = f
no_fault_at_end before Incomplete f = f
no_fault_at_end before Mismatch f = f
no_fault_at_end before NotPlace f = f
no_fault_at_end before NotConstant f = f
no_fault_at_end before BadCall f = f
no_fault_at_end before NoMain f = f

pub cut_not_refused : (text : List ℕ) (tokens : List Token) (place : Place) (rule : Rule) → IsCut text tokens → IsRefusal text place rule → ⊥
cut_not_refused text tokens place rule cut r =
    let found = found_fault r.front r.rest rule r.fault in
    let fronts_same = (cuts_meet text tokens r.tokens text [] r.front r.rest cut r.cut (halts_at_end text) (halts_at r.front r.rest rule found)).0 in
    let rests = (same_fronts text r.front [] r.rest (append-nil text ∙ r.cut.whole) (ap length fronts_same)).1 in
    no_fault_at_end r.front rule (subst (λ l. IsFault r.front l rule) (sym rests) r.fault)
