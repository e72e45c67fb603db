-- What it means that tokens which bear pieces spell something, and how it is put together as forms are.
use Rattle.std.proofs.Common.{◌≡◌, ℕ, zero, suc, ◌+◌, ◌≤◌, Bool, true, false, not, List, [], ◌∷◌, ◌++◌, map, Option, Some, None, refl, sym, ap, subst, ◌∙◌, arith, inl, inr}
use Rattle.std.specs.Prelude.{IsTrue}
use Rattle.std.specs.Option.{option_map}
use Rattle.std.proofs.lemmas.List.{append-nil}
use Rattle.cr_syntax.specs.declared.look.TokenLook.{TokenLook}
use Rattle.cr_syntax.specs.declared.look.TokenLook.TheVariants as l
use Rattle.cr_syntax.specs.declared.token.Token.{Token}
use Rattle.cr_syntax.specs.declared.token.TokenKind.{TokenKind}
use Rattle.cr_syntax.specs.declared.token.TokenKind.TheVariants as k
use Rattle.cr_syntax.specs.Look.{look_of}
use Rattle.cr_grammar.specs.declared.tree.Tree.{Tree}
use Rattle.cr_grammar.specs.declared.word.Word.{Word}
use Rattle.cr_grammar.specs.declared.wanted.Wanted.{Wanted}
use Rattle.cr_grammar.specs.Forms.{Form, nothing, ◌>>=◌, ◌<|>◌, where_true, passing, maybe, many, word, holding, exactly, is_tight, tight, seps}
use Rattle.cr_grammar.specs.Same.{unplaced}
use Rattle.cr_grammar.specs.Grammar.{rule, Spells_in}
use Rattle.cr_pieces.specs.Pieces.{Piece, Blank, Put}
use Rattle.cr_pieces.specs.Fits.{is_newline, is_newline_look, blanked, spaced_behind, Bears}
use Rattle.cr_pieces.proofs.Joined.{Parted, parted}
use Rattle.cr_round_trip.proofs.Known.{All}

-- a form, by what stands inside
abbrev pub Scheme : Type 0 → Type 1
Scheme A = (Wanted → Form Tree) → Form A

-- The tokens spell something that passes, from some depth on.
pub record Found {A : Type 0} (F : Scheme A) (P : A → Type 0) (w : List Token) : Type 0 where
  pub result : A
  pub passes : P result
  pub depth : ℕ
  pub spells : (m : ℕ) → depth ≤ m → F (Spells_in m) w result

-- So do all that bear the pieces.
pub record Reads {A : Type 0} (F : Scheme A) (P : A → Type 0) (s : Bool) (ps : List Piece) : Type 0 where
  pub found : (w : List Token) → Bears s ps w → Found F P w

-- the same but for places
abbrev pub Like : Tree → Tree → Type 0
Like x y = unplaced y ≡ unplaced x

abbrev pub AllLike : List Tree → List Tree → Type 0
AllLike xs ys = map unplaced ys ≡ map unplaced xs

abbrev pub AnyLike : Option Tree → Option Tree → Type 0
AnyLike x y = option_map unplaced y ≡ option_map unplaced x

-- ---- from one form to another

pub via : {A : Type 0} {F G : Scheme A} {P : A → Type 0} {s : Bool} {ps : List Piece} → ((S : Wanted → Form Tree) (w : List Token) (x : A) → F S w x → G S w x) → Reads F P s ps → Reads G P s ps
via h r = record { found = λ w b. let f = r.found w b in record { result = f.result; passes = f.passes; depth = f.depth; spells = λ m le. h (Spells_in m) w f.result (f.spells m le) } }

pub weaker : {A : Type 0} {F : Scheme A} {P Q : A → Type 0} {s : Bool} {ps : List Piece} → ((x : A) → P x → Q x) → Reads F P s ps → Reads F Q s ps
weaker h r = record { found = λ w b. let f = r.found w b in record { result = f.result; passes = h f.result f.passes; depth = f.depth; spells = f.spells } }

pub as_pieces : {A : Type 0} {F : Scheme A} {P : A → Type 0} {s : Bool} (ps qs : List Piece) → ps ≡ qs → Reads F P s qs → Reads F P s ps
as_pieces {A} {F} {P} {s} ps qs e r = subst (λ (v : List Piece). Reads F P s v) (sym e) r

-- one deeper
pub up : {P : Tree → Type 0} {s : Bool} {ps : List Piece} (wanted : Wanted) → Reads (λ S. rule S wanted) P s ps → Reads (λ S. S wanted) P s ps
up {P} {s} {ps} wanted r = record { found = deeper }
  where
    deeper : (w : List Token) → Bears s ps w → Found (λ S. S wanted) P w
    deeper w b = record { result = f.result; passes = f.passes; depth = suc f.depth; spells = at_depth }
      where
        f : Found (λ S. rule S wanted) P w
        f = r.found w b

        at_depth : (m : ℕ) → suc f.depth ≤ m → Spells_in m wanted w f.result
        at_depth zero le = absurd (omega arith)
        at_depth (suc m) le = f.spells m (omega arith)

-- ---- one after the other

pub then : {A B : Type 0} {F : Scheme A} {G : (Wanted → Form Tree) → A → Form B} {P : A → Type 0} {Q : B → Type 0} {s : Bool} (ps qs : List Piece)
    → Reads F P s ps → ((x : A) → P x → Reads (λ S. G S x) Q (spaced_behind s ps) qs) → Reads (λ S. F S >>= G S) Q s (ps ++ qs)
then {s = s} ps qs r h = record {
  found = λ w b.
      let p = parted s ps qs w b in
      let one = r.found p.front p.bears in
      let rest = (h one.result one.passes).found p.back p.behind in
      record { result = rest.result; passes = rest.passes; depth = one.depth + rest.depth; spells = λ m le. (p.front, p.back, one.result, p.whole, one.spells m (omega arith), rest.spells m (omega arith)) };
}

pub gives : {A : Type 0} {P : A → Type 0} {s : Bool} (x : A) → P x → Reads (λ S. nothing x) P s []
gives x h = record { found = λ w b. record { result = x; passes = h; depth = 0; spells = λ m le. (b, refl) } }

-- a token, and what stands behind it
pub on : {A B : Type 0} {F : Scheme A} {G : (Wanted → Form Tree) → A → Form B} {Q : B → Type 0} {s : Bool} (kind : TokenKind) (qs : List Piece) (make : Token → A)
    → ((S : Wanted → Form Tree) (t : Token) → t.kind ≡ kind → F S (t ∷ []) (make t)) → ((t : Token) → Reads (λ S. G S (make t)) Q (is_newline kind) qs) → Reads (λ S. F S >>= G S) Q s (Put kind ∷ qs)
on {A} {B} {F} {G} {Q} {s} kind qs make one h = record { found = by_first }
  where
    by_first : (w : List Token) → Bears s (Put kind ∷ qs) w → Found (λ S. F S >>= G S) Q w
    by_first w (t, v, e, is, spaced, b) =
        let rest = (h t).found v b in
        record { result = rest.result; passes = rest.passes; depth = rest.depth; spells = λ m le. (t ∷ [], v, make t, e, one (Spells_in m) t is, rest.spells m le) }

pub on_word : {B : Type 0} {G : (Wanted → Form Tree) → ℕ → Form B} {Q : B → Type 0} {s : Bool} (look : TokenLook) (qs : List Piece)
    → ((at : ℕ) → Reads (λ S. G S at) Q (is_newline_look look) qs) → Reads (λ S. word look >>= G S) Q s (Put (k.Plain look) ∷ qs)
on_word look qs h = on (k.Plain look) qs (λ t. t.span.first) (λ S t is. (t, refl, (ap look_of is, refl))) (λ t. h t.span.first)

pub on_name : {B : Type 0} {G : (Wanted → Form Tree) → Word → Form B} {Q : B → Type 0} {s : Bool} (kind : List ℕ → TokenKind) (text : List ℕ) (qs : List Piece)
    → ((at : ℕ) → Reads (λ S. G S (record { at = at; text = text })) Q (is_newline (kind text)) qs) → Reads (λ S. holding kind >>= G S) Q s (Put (kind text) ∷ qs)
on_name kind text qs h = on (kind text) qs (λ t. record { at = t.span.first; text = text }) (λ S t is. (t, refl, (is, refl))) (λ t. h t.span.first)

pub on_exactly : {B : Type 0} {G : (Wanted → Form Tree) → ℕ → Form B} {Q : B → Type 0} {s : Bool} (kind : TokenKind) (qs : List Piece)
    → ((at : ℕ) → Reads (λ S. G S at) Q (is_newline kind) qs) → Reads (λ S. exactly kind >>= G S) Q s (Put kind ∷ qs)
on_exactly kind qs h = on kind qs (λ t. t.span.first) (λ S t is. (t, refl, (is, refl))) (λ t. h t.span.first)

-- blanks in front
pub spaced : {A : Type 0} {F : Scheme A} {P : A → Type 0} {s : Bool} (n : ℕ) (ps : List Piece) → Reads F P (blanked s n) ps → Reads F P s (Blank n ∷ ps)
spaced n ps r = record { found = r.found }

-- ---- choices and tests

pub one_of : {A : Type 0} {F G : Scheme A} {P : A → Type 0} {s : Bool} {ps : List Piece} → Reads F P s ps → Reads (λ S. F S <|> G S) P s ps
one_of r = via (λ S w x f. inl f) r

pub other : {A : Type 0} {F G : Scheme A} {P : A → Type 0} {s : Bool} {ps : List Piece} → Reads G P s ps → Reads (λ S. F S <|> G S) P s ps
other r = via (λ S w x f. inr f) r

pub under : {A : Type 0} {t : Bool} {F : Scheme A} {P : A → Type 0} {s : Bool} {ps : List Piece} → IsTrue t → Reads F P s ps → Reads (λ S. where_true t (F S)) P s ps
under is r = via (λ S w x f. (is, f)) r

pub closely : {A : Type 0} {F : Scheme A} {P : A → Type 0} (kind : TokenKind) (ps : List Piece) → Reads F P false (Put kind ∷ ps) → Reads (λ S. tight (F S)) P false (Put kind ∷ ps)
closely {A} {F} {P} kind ps r = record { found = by_first }
  where
    by_first : (w : List Token) → Bears false (Put kind ∷ ps) w → Found (λ S. tight (F S)) P w
    by_first w b =
        let f = r.found w b in
        let is : IsTrue (is_tight w) = ap is_tight b.2 ∙ ap not b.4 in
        record { result = f.result; passes = f.passes; depth = f.depth; spells = λ m le. (is, f.spells m le) }

-- ---- optional and repeated parts

pub none : {A : Type 0} {F : Scheme A} {P : Option A → Type 0} {s : Bool} → P None → Reads (λ S. maybe (F S)) P s []
none h = record { found = λ w b. record { result = None; passes = h; depth = 0; spells = λ m le. b } }

pub some_one : {A : Type 0} {F : Scheme A} {P : A → Type 0} {Q : Option A → Type 0} {s : Bool} {ps : List Piece} → ((x : A) → P x → Q (Some x)) → Reads F P s ps → Reads (λ S. maybe (F S)) Q s ps
some_one h r = record { found = λ w b. let f = r.found w b in record { result = Some f.result; passes = h f.result f.passes; depth = f.depth; spells = f.spells } }

-- an optional part that is not there
pub skip : {A B : Type 0} {F : Scheme A} {G : (Wanted → Form Tree) → Option A → Form B} {Q : B → Type 0} {s : Bool} {ps : List Piece} → Reads (λ S. G S None) Q s ps → Reads (λ S. maybe (F S) >>= G S) Q s ps
skip r = record { found = λ w b. let f = r.found w b in record { result = f.result; passes = f.passes; depth = f.depth; spells = λ m le. ([], w, None, refl, refl, f.spells m le) } }

-- tight behind what is put in front
pub at_tight : {A : Type 0} {F : Scheme A} {P : A → Type 0} {s : Bool} (ps : List Piece) → s ≡ false → Reads F P false ps → Reads F P s ps
at_tight {A} {F} {P} ps e r = subst (λ (t : Bool). Reads F P t ps) (sym e) r

pub no_more : {A : Type 0} {F : Scheme A} {P : List A → Type 0} {s : Bool} → P [] → Reads (λ S. many (F S)) P s []
no_more h = record { found = λ w b. record { result = []; passes = h; depth = 0; spells = λ m le. b } }

pub one_more : {A : Type 0} {F : Scheme A} {P : A → Type 0} {Q R : List A → Type 0} {s : Bool} (ps qs : List Piece) → ((x : A) (xs : List A) → P x → Q xs → R (x ∷ xs)) → Reads F P s ps → Reads (λ S. many (F S)) Q (spaced_behind s ps) qs
    → Reads (λ S. many (F S)) R s (ps ++ qs)
one_more {s = s} ps qs h r rs = record {
  found = λ w b.
      let p = parted s ps qs w b in
      let one = r.found p.front p.bears in
      let rest = rs.found p.back p.behind in
      record { result = one.result ∷ rest.result; passes = h one.result rest.result one.passes rest.passes; depth = one.depth + rest.depth; spells = λ m le. (p.front, p.back, p.whole, one.spells m (omega arith), rest.spells m (omega arith)) };
}

pub both_like : (x y : Tree) (xs ys : List Tree) → Like x y → AllLike xs ys → AllLike (x ∷ xs) (y ∷ ys)
both_like x y xs ys p q = ap (λ (a : Tree). a ∷ map unplaced ys) p ∙ ap (λ (zs : List Tree). unplaced x ∷ zs) q

-- ---- separators

-- none
pub no_seps : {B : Type 0} {G : (Wanted → Form Tree) → Unit {0} → Form B} {Q : B → Type 0} {s : Bool} {ps : List Piece} → Reads (λ S. G S tt) Q s ps → Reads (λ S. seps >>= G S) Q s ps
no_seps r = record { found = λ w b. let f = r.found w b in record { result = f.result; passes = f.passes; depth = f.depth; spells = λ m le. ([], w, tt, refl, ([], [], [], refl, refl, (refl, refl)), f.spells m le) } }

-- one end of a line
pub a_sep : {B : Type 0} {G : (Wanted → Form Tree) → Unit {0} → Form B} {Q : B → Type 0} {s : Bool} (ps : List Piece) → Reads (λ S. G S tt) Q true ps → Reads (λ S. seps >>= G S) Q s (Put (k.Plain l.Newline) ∷ ps)
a_sep ps r = on (k.Plain l.Newline) ps (λ t. tt) (λ S t is. (t ∷ [], [], t.span.first ∷ [], refl, (t ∷ [], [], refl, (t, refl, (ap look_of is, refl)), refl), (refl, refl))) (λ t. r)

-- ---- one token

pub one_token : {A : Type 0} {F : Scheme A} {P : A → Type 0} {s : Bool} (kind : TokenKind) (make : Token → A) → ((S : Wanted → Form Tree) (t : Token) → t.kind ≡ kind → F S (t ∷ []) (make t)) → ((t : Token) → P (make t)) → Reads F P s (Put kind ∷ [])
one_token {A} {F} {P} {s} kind make one h = record { found = by_first }
  where
    by_first : (w : List Token) → Bears s (Put kind ∷ []) w → Found F P w
    by_first w (t, v, e, is, spaced, nil) = record {
      result = make t;
      passes = h t;
      depth = 0;
      spells = λ m le. subst (λ (z : List Token). F (Spells_in m) z (make t)) (sym (e ∙ ap (λ (z : List Token). t ∷ z) nil)) (one (Spells_in m) t is);
    }

-- tokens that pass a test, as all do that bear the pieces
pub tested : {A : Type 0} {F : Scheme A} {P : A → Type 0} {s : Bool} {ps : List Piece} (test : List Token → Bool) → ((w : List Token) → Bears s ps w → IsTrue (test w)) → Reads F P s ps → Reads (λ S. passing test (F S)) P s ps
tested test is r = record { found = λ w b. let f = r.found w b in record { result = f.result; passes = f.passes; depth = f.depth; spells = λ m le. (is w b, f.spells m le) } }
