-- The tokens that hold a name, a number or a text are read exactly.
use Rattle.std.proofs.Common.{◌≡◌, ℕ, ℤ, pos, true, List, Some, ◌⊎◌, inl, inr, refl, sym, ap, ◌∙◌}
use Rattle.std.proofs.lemmas.Slice.Eq.{bytes_eq-Decides}
use Rattle.cr_syntax.specs.declared.token.Token.{Token}
use Rattle.cr_syntax.specs.declared.token.TokenKind.{TokenKind}
use Rattle.cr_syntax.specs.declared.token.TokenKind.TheVariants as k
use Rattle.cr_grammar.specs.declared.tree.Tree.{Tree}
use Rattle.cr_grammar.specs.declared.tree.Tree.TheVariants as tree
use Rattle.cr_grammar.specs.Forms as f
use Rattle.cr_readers.specs.Reader.{Test, holder, place_if}
use Rattle.cr_exact.specs.Exact.{Effort, Exact, Any}
use Rattle.cr_readers.specs.Words.{ident_text, constant_text, variable_text, whole_text, first_text, middle_text, last_text, ident, constant, instance_variable, is_ident, exactly_ident, number_of, number}
use Rattle.std.proofs.Common.{false}
use Rattle.cr_syntax.specs.declared.look.TokenLook.TheVariants as l
use Rattle.cr_syntax.specs.Look.{look_of}
use Rattle.cr_readers.specs.Reader.{seen, same_look, worded}
use Rattle.cr_exact.specs.Exact.{hollow}
use Rattle.cr_exact.proofs.Moves.{Moves, moves_take}
use Rattle.cr_exact.proofs.Tokens.{exact_take, exact_holder, a_token, some_one, place_out}

-- ---- names and texts

ident_out : (v : TokenKind) (text : List ℕ) → ident_text v ≡ Some text → v ≡ k.Ident text
ident_out (k.Ident found) text e = cc
ident_out other text e = absurd cc

constant_out : (v : TokenKind) (text : List ℕ) → constant_text v ≡ Some text → v ≡ k.Constant text
constant_out (k.Constant found) text e = cc
constant_out other text e = absurd cc

variable_out : (v : TokenKind) (text : List ℕ) → variable_text v ≡ Some text → v ≡ k.InstanceVariable text
variable_out (k.InstanceVariable found) text e = cc
variable_out other text e = absurd cc

whole_out : (v : TokenKind) (text : List ℕ) → whole_text v ≡ Some text → v ≡ k.Text text
whole_out (k.Text found) text e = cc
whole_out other text e = absurd cc

first_out : (v : TokenKind) (text : List ℕ) → first_text v ≡ Some text → v ≡ k.TextFirst text
first_out (k.TextFirst found) text e = cc
first_out other text e = absurd cc

middle_out : (v : TokenKind) (text : List ℕ) → middle_text v ≡ Some text → v ≡ k.TextMiddle text
middle_out (k.TextMiddle found) text e = cc
middle_out other text e = absurd cc

last_out : (v : TokenKind) (text : List ℕ) → last_text v ≡ Some text → v ≡ k.TextLast text
last_out (k.TextLast found) text e = cc
last_out other text e = absurd cc

is_ident_out : (text : List ℕ) (v : TokenKind) → is_ident text v ≡ true → v ≡ k.Ident text
is_ident_out text (k.Ident found) e = ap (λ v. k.Ident v) ((bytes_eq-Decides found text).0 e)
is_ident_out text other e = absurd cc

-- ---- numbers

-- a number with its place
abbrev pub Number : Token → ℕ × Tree → Type 0
Number t x = (x.0 ≡ t.span.first) × (((n : ℤ) × (t.kind ≡ k.Int32 n) × (x.1 ≡ tree.Int32 t.span.first n)) ⊎ ((n : ℤ) × (t.kind ≡ k.Int64 n) × (x.1 ≡ tree.Int64 t.span.first n)))

number_out : (t : Token) (v : TokenKind) → t.kind ≡ v → (x : ℕ × Tree) → number_of t v ≡ Some x → Number t x
number_out t (k.Int32 n) is x e =
    let same : (t.span.first, tree.Int32 t.span.first n) ≡ x = some_one _ x e in
    (sym (ap (λ (v : ℕ × Tree). v.0) same), inl (n, is, sym (ap (λ (v : ℕ × Tree). v.1) same)))
number_out t (k.Int64 n) is x e =
    let same : (t.span.first, tree.Int64 t.span.first n) ≡ x = some_one _ x e in
    (sym (ap (λ (v : ℕ × Tree). v.0) same), inr (n, is, sym (ap (λ (v : ℕ × Tree). v.1) same)))
number_out t other is x e = absurd cc

number_back : (t : Token) (x : ℕ × Tree) → Number t x → number_of t t.kind ≡ Some x
number_back t x (at, inl c) = ap (number_of t) c.1 ∙ ap Some (λ i. (sym at i, sym c.2 i))
number_back t x (at, inr c) = ap (number_of t) c.1 ∙ ap Some (λ i. (sym at i, sym c.2 i))

-- ---- a token that holds a text, by its look

middle_read : (v : TokenKind) → hollow v ≡ false → same_look (look_of v) l.TextMiddle ≡ true → (text : List ℕ) × (middle_text v ≡ Some text)
unfolding same_look
middle_read (k.TextMiddle text) full is = (text, refl)
middle_read (k.Plain l.TextMiddle) full is = absurd cc
middle_read other full is = absurd cc

pub middle_moves : Moves (seen l.TextMiddle) (holder middle_text)
middle_moves =
    moves_take (seen l.TextMiddle) (λ t. worded t (middle_text t.kind)) (λ t full is. let r = middle_read t.kind full is in (record { at = t.span.first; text = r.0 }, ap (worded t) r.1))

variable_read : (v : TokenKind) → hollow v ≡ false → same_look (look_of v) l.InstanceVariable ≡ true → (text : List ℕ) × (variable_text v ≡ Some text)
unfolding same_look
variable_read (k.InstanceVariable text) full is = (text, refl)
variable_read (k.Plain l.InstanceVariable) full is = absurd cc
variable_read other full is = absurd cc

pub variable_moves : Moves (seen l.InstanceVariable) instance_variable
variable_moves =
    moves_take (seen l.InstanceVariable) (λ t. worded t (variable_text t.kind)) (λ t full is. let r = variable_read t.kind full is in (record { at = t.span.first; text = r.0 }, ap (worded t) r.1))

module _ (effort : Effort) (g : Test) where
  pub exact_ident : Exact effort Any f.ident f.ident g ident
  exact_ident = exact_holder effort (λ text. k.Ident text) ident_text ident_out (λ text. refl) g

  pub exact_constant : Exact effort Any f.constant f.constant g constant
  exact_constant = exact_holder effort (λ text. k.Constant text) constant_text constant_out (λ text. refl) g

  pub exact_instance_variable : Exact effort Any f.instance_variable f.instance_variable g instance_variable
  exact_instance_variable = exact_holder effort (λ text. k.InstanceVariable text) variable_text variable_out (λ text. refl) g

  pub exact_whole_text : Exact effort Any (f.holding (λ text. k.Text text)) (f.holding (λ text. k.Text text)) g (holder whole_text)
  exact_whole_text = exact_holder effort (λ text. k.Text text) whole_text whole_out (λ text. refl) g

  pub exact_first_text : Exact effort Any (f.holding (λ text. k.TextFirst text)) (f.holding (λ text. k.TextFirst text)) g (holder first_text)
  exact_first_text = exact_holder effort (λ text. k.TextFirst text) first_text first_out (λ text. refl) g

  pub exact_middle_text : Exact effort Any (f.holding (λ text. k.TextMiddle text)) (f.holding (λ text. k.TextMiddle text)) g (holder middle_text)
  exact_middle_text = exact_holder effort (λ text. k.TextMiddle text) middle_text middle_out (λ text. refl) g

  pub exact_last_text : Exact effort Any (f.holding (λ text. k.TextLast text)) (f.holding (λ text. k.TextLast text)) g (holder last_text)
  exact_last_text = exact_holder effort (λ text. k.TextLast text) last_text last_out (λ text. refl) g

  -- ---- one name alone

  pub exact_exactly_ident : (text : List ℕ) → Exact effort Any (f.exactly (k.Ident text)) (f.exactly (k.Ident text)) g (exactly_ident text)
  exact_exactly_ident text = exact_take effort (λ t at. (t.kind ≡ k.Ident text) × (at ≡ t.span.first)) g (λ t. place_if (is_ident text t.kind) t)
      (λ t at e. let r = place_out _ t at e in (is_ident_out text t.kind r.0, r.1))
      (λ t at e. ap (λ b. place_if b t) (ap (is_ident text) e.0 ∙ (bytes_eq-Decides text text).1 refl) ∙ ap Some (sym e.1))
      (a_token (k.Ident text)) 0 (refl, refl)

  -- ---- a number

  pub exact_number : Exact effort Any (f.one Number) (f.one Number) g number
  exact_number = exact_take effort Number g (λ t. number_of t t.kind)
      (λ t x e. number_out t t.kind refl x e) (λ t x e. number_back t x e)
      (a_token (k.Int32 (pos 0))) (0, tree.Int32 0 (pos 0)) (refl, inl (pos 0, refl, refl))
