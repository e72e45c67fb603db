-- What a method's name and its `def` are written as fits.
use Rattle.std.proofs.Common.{◌≡◌, ℕ, suc, ◌-◌, ◌≤◌, Bool, true, false, not, ◌&&◌, ◌||◌, cond, ◌==◌, List, [], ◌∷◌, ◌++◌, length, take, map, Option, Some, None, refl, sym, ap, subst, ◌∙◌, arith, inl, inr, ◌⊎◌}
use Rattle.std.specs.Prelude.{codes}
use Rattle.std.specs.Option.{option_map}
use Rattle.std.specs.Str.{bytes_eq}
use Rattle.std.proofs.Math.Seq.{take-append_seam}
use Rattle.std.proofs.lemmas.List.{length-append}
use Rattle.std.proofs.lemmas.Bool.{ne_eqb, and_parts, or_left}
use Rattle.cr_syntax.specs.declared.open.Open.{Open}
use Rattle.cr_syntax.specs.declared.look.TokenLook.{TokenLook}
use Rattle.cr_syntax.specs.declared.look.TokenLook.TheVariants as l
use Rattle.cr_syntax.specs.declared.token.TokenKind.TheVariants as k
use Rattle.cr_syntax.specs.Words.{begins_name, is_word_byte, is_mark, is_word_end}
use Rattle.cr_syntax.specs.Lexes.{Before, nesting_behind}
use Rattle.cr_grammar.specs.declared.tree.Tree.{Tree}
use Rattle.cr_grammar.specs.declared.tree.Tree.TheVariants as tree
use Rattle.cr_grammar.specs.Operators as o
use Rattle.cr_pieces.specs.Pieces.{Piece, Put, spelling, text_of}
use Rattle.cr_pieces.specs.Proper.{IsName}
use Rattle.cr_pieces.specs.Fits.{is_newline_look, is_marked, put_behind, ends_word, stands, Fits}
use Rattle.cr_pieces.proofs.Words.{name_least}
use Rattle.cr_pretty.specs.Layout as y
use Rattle.cr_pretty.specs.Layout.{Laid, laid, word, space, bare}
use Rattle.cr_pretty.proofs.Laid as of
use Rattle.cr_round_trip.proofs.Stops.{stop, Ready}
use Rattle.cr_round_trip.proofs.Known.{All, Any, IsMethodName, IsSetterName}
use Rattle.cr_round_trip.proofs.Words as w
use Rattle.cr_round_trip.proofs.Fit.{Keeps, Fit, Tail, open_text}
use Rattle.cr_round_trip.proofs.Listed.{Lays, body_tail, bare_fit, in_parentheses_tail}
use Rattle.cr_round_trip.proofs.Names.{ident_fit}
use Rattle.cr_round_trip.proofs.Constructs.{lays}
use Rattle.cr_round_trip.proofs.Types.{restriction_tail}

-- ---- which name it is

-- A letter or `_` begins no operator and no bracket.
abbrev plain_name : List ℕ → List Piece
plain_name text = y.name_among [] text

begins_no_sign : (c : ℕ) (cs : List ℕ) → begins_name c ≡ true → y.method_name (c ∷ cs) ≡ plain_name (c ∷ cs)
begins_no_sign c cs e =
    let least = name_least c e in
    let a = ne_eqb c 91 (λ is. absurd (omega arith)) in
    let plus = ne_eqb 43 c (λ is. absurd (omega arith)) in let minus = ne_eqb 45 c (λ is. absurd (omega arith)) in let star = ne_eqb 42 c (λ is. absurd (omega arith)) in
    let slash = ne_eqb 47 c (λ is. absurd (omega arith)) in let percent = ne_eqb 37 c (λ is. absurd (omega arith)) in let equal = ne_eqb 61 c (λ is. absurd (omega arith)) in
    let less = ne_eqb 60 c (λ is. absurd (omega arith)) in let greater = ne_eqb 62 c (λ is. absurd (omega arith)) in
    rw (a, plus, minus, star, slash, percent, equal, less, greater) refl

-- ---- names that end with `=`

word_is_no_equal : (b : ℕ) → (is_word_byte b || is_mark b) ≡ true → (b == 61) ≡ false
word_is_no_equal b e = ne_eqb b 61 (λ is. absurd (let no : (is_word_byte 61 || is_mark 61) ≡ true = subst (λ (c : ℕ). (is_word_byte c || is_mark c) ≡ true) is e in cc))

or_and : (x y z : Bool) → (x || (y && z)) ≡ true → (x || y) ≡ true
or_and true y z e = refl
or_and false true z e = refl
or_and false false z e = absurd cc

no_setter : (b : ℕ) (bs : List ℕ) → (b == 61) ≡ false → is_word_end bs [] ≡ true → y.is_setter (b ∷ bs) ≡ false
no_setter b [] e f = e
no_setter b (c ∷ []) e f = word_is_no_equal c (or_and (is_word_byte c) (is_mark c) true f)
no_setter b (c ∷ d ∷ bs) e f =
    let both = and_parts (is_word_byte c) (is_word_end (d ∷ bs) []) f in
    no_setter c (d ∷ bs) (word_is_no_equal c (or_left (is_word_byte c) (is_mark c) both.0)) both.1

a_setter : (b : ℕ) (bs : List ℕ) → y.is_setter (b ∷ (bs ++ 61 ∷ [])) ≡ true
a_setter b [] = refl
a_setter b (c ∷ bs) = a_setter c bs

without_last : (name : List ℕ) → take (length (name ++ 61 ∷ []) - 1) (name ++ 61 ∷ []) ≡ name
without_last name =
    let e : length (name ++ 61 ∷ []) - 1 ≡ length name = omega (arith, length-append name (61 ∷ [])) in
    ap (λ (i : ℕ). take i (name ++ 61 ∷ [])) e ∙ take-append_seam name (61 ∷ [])

pub named_is : (name : List ℕ) → IsName name → y.method_name name ≡ Put (k.Ident name) ∷ []
named_is [] is = absurd is
named_is (c ∷ cs) is =
    let least = name_least c is.0 in
    let no : y.is_setter (c ∷ cs) ≡ false = no_setter c cs (ne_eqb c 61 (λ e. absurd (omega arith))) is.1 in
    begins_no_sign c cs is.0 ∙ ap (λ (t : Bool). cond t (Put (k.Ident (take (length (c ∷ cs) - 1) (c ∷ cs))) ∷ word l.Equal ∷ []) (Put (k.Ident (c ∷ cs)) ∷ [])) no

pub setter_is : (name : List ℕ) → IsName name → y.method_name (name ++ 61 ∷ []) ≡ Put (k.Ident name) ∷ word l.Equal ∷ []
setter_is [] is = absurd is
setter_is (c ∷ cs) is =
    let text = (c ∷ cs) ++ 61 ∷ [] in
    begins_no_sign c (cs ++ 61 ∷ []) is.0 ∙ ap (λ (t : Bool). cond t (Put (k.Ident (take (length text - 1) text)) ∷ word l.Equal ∷ []) (Put (k.Ident text) ∷ [])) (a_setter c cs)
    ∙ ap (λ (found : List ℕ). Put (k.Ident found) ∷ word l.Equal ∷ []) (without_last (c ∷ cs))

-- ---- what stands behind the name: `(`, a space or the end of the line

abbrev pub Begun : List ℕ → Type 0
Begun bytes = (bs : List ℕ) × ((bytes ≡ 40 ∷ bs) ⊎ (bytes ≡ 32 ∷ bs) ⊎ (bytes ≡ 10 ∷ bs))

begun_by : (test : List ℕ → Bool) → ((bs : List ℕ) → test (40 ∷ bs) ≡ true) → ((bs : List ℕ) → test (32 ∷ bs) ≡ true) → ((bs : List ℕ) → test (10 ∷ bs) ≡ true) → (bytes : List ℕ) → Begun bytes → test bytes ≡ true
begun_by test a b c bytes (bs, inl e) = ap test e ∙ a bs
begun_by test a b c bytes (bs, inr (inl e)) = ap test e ∙ b bs
begun_by test a b c bytes (bs, inr (inr e)) = ap test e ∙ c bs

-- what stands behind the name of a method
record Behind (ps : List Piece) : Type 0 where
  tail : Tail ps
  begun : (after : List ℕ) → Begun (text_of ps ++ after)

-- an operator stands in front of it
abbrev pub Stands : TokenLook → Type 0
Stands look = (before : Before) (s : Bool) (after : List ℕ) → Begun after → stands before s (k.Plain look) after ≡ true

-- an operator that names a method
pub record IsNaming (look : TokenLook) (text : List ℕ) : Type 0 where
  pub standing : Stands look
  pub keeping : (nesting : List Open) → nesting_behind nesting 0 look ≡ nesting
  pub name : y.method_name text ≡ word look ∷ []

pub naming : (look : TokenLook) (text : List ℕ) → o.operator_name look ≡ Some text → IsNaming look text
naming l.Plus text e = record {
  standing = λ before s after. begun_by (λ z. stands before s (k.Plain l.Plus) z) (λ bs. refl) (λ bs. refl) (λ bs. refl) after;
  keeping = λ nesting. refl;
  name = ap y.method_name (let is : text ≡ codes "+" = cc in is);
}
naming l.Minus text e = record {
  standing = λ before s after. begun_by (λ z. stands before s (k.Plain l.Minus) z) (λ bs. refl) (λ bs. refl) (λ bs. refl) after;
  keeping = λ nesting. refl;
  name = ap y.method_name (let is : text ≡ codes "-" = cc in is);
}
naming l.Star text e = record {
  standing = λ before s after. begun_by (λ z. stands before s (k.Plain l.Star) z) (λ bs. refl) (λ bs. refl) (λ bs. refl) after;
  keeping = λ nesting. refl;
  name = ap y.method_name (let is : text ≡ codes "*" = cc in is);
}
naming l.SlashSlash text e = record {
  standing = λ before s after. begun_by (λ z. stands before s (k.Plain l.SlashSlash) z) (λ bs. refl) (λ bs. refl) (λ bs. refl) after;
  keeping = λ nesting. refl;
  name = ap y.method_name (let is : text ≡ codes "//" = cc in is);
}
naming l.Percent text e = record {
  standing = λ before s after. begun_by (λ z. stands before s (k.Plain l.Percent) z) (λ bs. refl) (λ bs. refl) (λ bs. refl) after;
  keeping = λ nesting. refl;
  name = ap y.method_name (let is : text ≡ codes "%" = cc in is);
}
naming l.EqualEqual text e = record {
  standing = λ before s after. begun_by (λ z. stands before s (k.Plain l.EqualEqual) z) (λ bs. refl) (λ bs. refl) (λ bs. refl) after;
  keeping = λ nesting. refl;
  name = ap y.method_name (let is : text ≡ codes "==" = cc in is);
}
naming l.Less text e = record {
  standing = λ before s after. begun_by (λ z. stands before s (k.Plain l.Less) z) (λ bs. refl) (λ bs. refl) (λ bs. refl) after;
  keeping = λ nesting. refl;
  name = ap y.method_name (let is : text ≡ codes "<" = cc in is);
}
naming l.LessEqual text e = record {
  standing = λ before s after. begun_by (λ z. stands before s (k.Plain l.LessEqual) z) (λ bs. refl) (λ bs. refl) (λ bs. refl) after;
  keeping = λ nesting. refl;
  name = ap y.method_name (let is : text ≡ codes "<=" = cc in is);
}
naming l.Greater text e = record {
  standing = λ before s after. begun_by (λ z. stands before s (k.Plain l.Greater) z) (λ bs. refl) (λ bs. refl) (λ bs. refl) after;
  keeping = λ nesting. refl;
  name = ap y.method_name (let is : text ≡ codes ">" = cc in is);
}
naming l.GreaterEqual text e = record {
  standing = λ before s after. begun_by (λ z. stands before s (k.Plain l.GreaterEqual) z) (λ bs. refl) (λ bs. refl) (λ bs. refl) after;
  keeping = λ nesting. refl;
  name = ap y.method_name (let is : text ≡ codes ">=" = cc in is);
}
naming l.ShiftLeft text e = record {
  standing = λ before s after. begun_by (λ z. stands before s (k.Plain l.ShiftLeft) z) (λ bs. refl) (λ bs. refl) (λ bs. refl) after;
  keeping = λ nesting. refl;
  name = ap y.method_name (let is : text ≡ codes "<<" = cc in is);
}
naming other text e = absurd cc

equal_stands : Stands l.Equal
equal_stands before s after = begun_by (λ z. stands before s (k.Plain l.Equal) z) (λ bs. refl) (λ bs. refl) (λ bs. refl) after

-- ---- a name with what stands behind it

record Head (ps : List Piece) : Type 0 where
  fits : (before : Before) (s : Bool) (after : List ℕ) → Ready before → stop after ≡ true → Fits before s ps after
  keeps : Keeps ps

same_mark : (bs : List ℕ) → is_marked bs ≡ o.is_marked bs
same_mark [] = refl
same_mark (b ∷ []) = refl
same_mark (b ∷ c ∷ bs) = same_mark (c ∷ bs)

named_head : (name : List ℕ) (qs : List Piece) → IsName name → Behind qs → Head (Put (k.Ident name) ∷ qs)
named_head name qs is behind = let fit = ident_fit name qs is behind.tail in record { fits = fit.fits; keeps = fit.keeps }

setter_head : (name : List ℕ) (qs : List Piece) → IsName name → o.is_marked name ≡ false → Behind qs → Head (Put (k.Ident name) ∷ word l.Equal ∷ qs)
setter_head name qs is plain behind =
    let e : is_marked name ≡ false = same_mark name ∙ plain in
    let tail = behind.tail in record {
      fits = λ before s after ready stops. (
        is,
        rw e refl,
        (tt, equal_stands (put_behind before (k.Ident name)) false (text_of qs ++ after) (behind.begun after), tail.fits (put_behind (put_behind before (k.Ident name)) (k.Plain l.Equal)) false after stops),
      );
      keeps = λ before. tail.keeps (put_behind (put_behind before (k.Ident name)) (k.Plain l.Equal));
    }

operator_head : (look : TokenLook) (text : List ℕ) (qs : List Piece) → IsNaming look text → Behind qs → Head (word look ∷ qs)
operator_head look text qs is behind = let tail = behind.tail in record {
  fits = λ before s after ready stops. (tt, is.standing before s (text_of qs ++ after) (behind.begun after), tail.fits (put_behind before (k.Plain look)) (is_newline_look look) after stops);
  keeps = λ before. tail.keeps (put_behind before (k.Plain look)) ∙ is.keeping before.nesting;
}

index_head : (qs : List Piece) → Behind qs → Head (word l.OpenBracket ∷ word l.CloseBracket ∷ qs)
index_head qs behind = let tail = behind.tail in record {
  fits = λ before s after ready stops. (tt, refl, (tt, refl, tail.fits (put_behind (put_behind before (k.Plain l.OpenBracket)) (k.Plain l.CloseBracket)) false after stops));
  keeps = λ before. tail.keeps (put_behind (put_behind before (k.Plain l.OpenBracket)) (k.Plain l.CloseBracket));
}

index_set_head : (qs : List Piece) → Behind qs → Head (word l.OpenBracket ∷ word l.CloseBracket ∷ word l.Equal ∷ qs)
index_set_head qs behind =
    let tail = behind.tail in record {
      fits = λ before s after ready stops.
          let inside = put_behind (put_behind before (k.Plain l.OpenBracket)) (k.Plain l.CloseBracket) in
          (tt, refl, (tt, refl, (tt, equal_stands inside false (text_of qs ++ after) (behind.begun after), tail.fits (put_behind inside (k.Plain l.Equal)) false after stops)));
      keeps = λ before. tail.keeps (put_behind (put_behind (put_behind before (k.Plain l.OpenBracket)) (k.Plain l.CloseBracket)) (k.Plain l.Equal));
    }

index_question_head : (qs : List Piece) → Behind qs → Head (word l.OpenBracket ∷ word l.CloseBracket ∷ word l.Question ∷ qs)
index_question_head qs behind =
    let tail = behind.tail in record {
      fits = λ before s after ready stops.
          let inside = put_behind (put_behind before (k.Plain l.OpenBracket)) (k.Plain l.CloseBracket) in
          (tt, refl, (tt, refl, (tt, refl, tail.fits (put_behind inside (k.Plain l.Question)) false after stops)));
      keeps = λ before. tail.keeps (put_behind (put_behind (put_behind before (k.Plain l.OpenBracket)) (k.Plain l.CloseBracket)) (k.Plain l.Question));
    }

head_as : (name : List ℕ) (ps qs : List Piece) → y.method_name name ≡ ps → Head (ps ++ qs) → Head (y.method_name name ++ qs)
head_as name ps qs e h = subst (λ (v : List Piece). Head (v ++ qs)) (sym e) h

method_head : (name : List ℕ) (qs : List Piece) → IsMethodName name → Behind qs → Head (y.method_name name ++ qs)
method_head name qs (inl is) behind = head_as name (Put (k.Ident name) ∷ []) qs (named_is name is) (named_head name qs is behind)
method_head name qs (inr (inl (base, is, plain, e))) behind =
    head_as name (Put (k.Ident base) ∷ word l.Equal ∷ []) qs (ap y.method_name e ∙ setter_is base is) (setter_head base qs is plain behind)
method_head name qs (inr (inr (inl (look, e)))) behind = let is = naming look name e in head_as name (word look ∷ []) qs is.name (operator_head look name qs is behind)
method_head name qs (inr (inr (inr (inl e)))) behind = head_as name (word l.OpenBracket ∷ word l.CloseBracket ∷ []) qs (ap y.method_name e) (index_head qs behind)
method_head name qs (inr (inr (inr (inr (inl e))))) behind = head_as name (word l.OpenBracket ∷ word l.CloseBracket ∷ word l.Equal ∷ []) qs (ap y.method_name e) (index_set_head qs behind)
method_head name qs (inr (inr (inr (inr (inr e))))) behind = head_as name (word l.OpenBracket ∷ word l.CloseBracket ∷ word l.Question ∷ []) qs (ap y.method_name e) (index_question_head qs behind)

-- ---- `def`

module _ (xs : List Tree) (result : Option Tree) (list : List Tree) (level : ℕ) where
  abbrev ends : List Piece
  ends = y.restriction level (option_map laid result) ++ y.body level (map laid list)

  body_begun : (zs : List Tree) (after : List ℕ) → Begun (text_of (y.body level (map laid zs)) ++ after)
  body_begun [] after = (_, inr (inr refl))
  body_begun (z ∷ zs) after = (_, inr (inr refl))

  ends_begun : (r : Option Tree) (after : List ℕ) → Begun (text_of (y.restriction level (option_map laid r) ++ y.body level (map laid list)) ++ after)
  ends_begun None after = body_begun list after
  ends_begun (Some x) after = (_, inr (inl refl))

  rest_begun : (zs : List Tree) (after : List ℕ) → Begun (text_of (y.in_parentheses (map (bare level) (map laid zs)) ++ ends) ++ after)
  rest_begun [] after = ends_begun result after
  rest_begun (z ∷ zs) after = (_, inl refl)

  rest_behind : All Lays xs → Any Lays result → All Lays list → Behind (y.in_parentheses (map (bare level) (map laid xs)) ++ ends)
  rest_behind hx hr hl = record {
    tail = in_parentheses_tail (map (bare level) (map laid xs)) ends (bare_fit xs level hx) (restriction_tail result level (y.body level (map laid list)) hr (body_tail list level hl));
    begun = rest_begun xs;
  }

def_fit : (ps : List Piece) → Head ps → Fit (word l.Def ∷ space ∷ ps)
def_fit ps head = record {
  fits = λ before s after ready e. (tt, (w.def_opener).standing before s (text_of ps ++ after), head.fits (put_behind before (k.Plain l.Def)) true after refl e);
  keeps = λ before. head.keeps (put_behind before (k.Plain l.Def));
  opening = λ after. open_text l.Def (space ∷ ps) after (λ more. refl);
}

pub def_lays : (at : ℕ) (name : List ℕ) (xs : List Tree) (result : Option Tree) (list : List Tree) → IsMethodName name → All Lays xs → Any Lays result → All Lays list → Lays (tree.Def at name xs result list)
def_lays at name xs result list is hx hr hl = lays (tree.Def at name xs result list) (of.of_def at name xs result list) (λ level.
    let qs = y.in_parentheses (map (bare level) (map laid xs)) ++ ends xs result list level in
    def_fit (y.method_name name ++ qs) (method_head name qs is (rest_behind xs result list level hx hr hl)))
