-- Lists of constructs: with commas between them, in parentheses, and a line each.
use Rattle.std.proofs.Common.{◌≡◌, ℕ, suc, ◌*◌, Bool, true, false, List, [], ◌∷◌, ◌++◌, map, Option, Some, None, refl, sym, ap, subst, ◌∙◌}
use Rattle.std.specs.Option.{option_map}
use Rattle.cr_syntax.specs.declared.look.TokenLook.TheVariants as l
use Rattle.cr_syntax.specs.declared.token.TokenKind.TheVariants as k
use Rattle.cr_syntax.specs.Lexes.{Before}
use Rattle.cr_grammar.specs.declared.tree.Tree.{Tree}
use Rattle.cr_pieces.specs.Pieces.{Piece, Blank, Put, text_of}
use Rattle.cr_pieces.specs.Fits.{blanked, put_behind, Fits}
use Rattle.cr_pretty.specs.Layout as y
use Rattle.cr_pretty.specs.Layout.{laid, word, space, bare, argument, line, lines, end_line, body, else_lines, joined, more_joined, comma, listed, parenthesized, in_parentheses, shape_of, argument_encloses}
use Rattle.cr_round_trip.proofs.Stops.{stop, opens, Ready}
use Rattle.cr_round_trip.proofs.Words as w
use Rattle.cr_round_trip.proofs.Known.{All, Any}
use Rattle.cr_round_trip.proofs.Fit.{Keeps, Fit, Tail, Next, keeps_append, pieces_assoc, pieces_nil, next_from, then, tail_next, no_tail, enclosed_fit}

-- what a tree is written as fits, at each level
abbrev pub Lays : Tree → Type 0
Lays x = (level : ℕ) → Fit (bare level (laid x))

-- ---- with the same pieces between any two

-- what stands between two constructs
pub record IsBetween (between : List Piece) : Type 0 where
  pub fits : (before : Before) (s : Bool) (qs : List Piece) (after : List ℕ) → ((b : Before) (t : Bool) → Ready b → b.nesting ≡ before.nesting → Fits b t qs after) → Fits before s (between ++ qs) after
  pub keeps : Keeps between
  pub stops : (qs : List Piece) (after : List ℕ) → stop (text_of (between ++ qs) ++ after) ≡ true

pub commas : IsBetween comma
commas = record {
  fits = λ before s qs after next. (tt, refl, next (put_behind before (k.Plain l.Comma)) true refl refl);
  keeps = λ before. refl;
  stops = λ qs after. refl;
}

pub bars : IsBetween y.bar
bars = record {
  fits = λ before s qs after next. (tt, refl, next (put_behind before (k.Plain l.Pipe)) true refl refl);
  keeps = λ before. refl;
  stops = λ qs after. refl;
}

module _ (between : List Piece) (is : IsBetween between) where
  pub more_keep : (pss : List (List Piece)) → All Fit pss → Keeps (more_joined between pss)
  more_keep [] held = λ before. refl
  more_keep (ps ∷ pss) held = keeps_append between (ps ++ more_joined between pss) is.keeps (keeps_append ps (more_joined between pss) held.0.keeps (more_keep pss held.1))

  more_stop : (pss : List (List Piece)) (qs : List Piece) (after : List ℕ) → stop (text_of qs ++ after) ≡ true → stop (text_of (more_joined between pss ++ qs) ++ after) ≡ true
  more_stop [] qs after e = e
  more_stop (ps ∷ pss) qs after e =
      subst (λ (v : List Piece). stop (text_of v ++ after) ≡ true) (sym (pieces_assoc between (ps ++ more_joined between pss) qs)) (is.stops ((ps ++ more_joined between pss) ++ qs) after)

  more_fit : (pss : List (List Piece)) → All Fit pss → (before : Before) (s : Bool) (qs : List Piece) (after : List ℕ) → stop (text_of qs ++ after) ≡ true → Next before qs after → Fits before s (more_joined between pss ++ qs) after
  more_fit [] held before s qs after e next = next before s refl
  more_fit (ps ∷ pss) held before s qs after e next =
      let more = more_joined between pss in
      subst (λ (v : List Piece). Fits before s v after) (sym (pieces_assoc between (ps ++ more) qs ∙ ap (λ (v : List Piece). between ++ v) (pieces_assoc ps more qs)))
      (is.fits before s (ps ++ (more ++ qs)) after (λ b t ready same.
      then ps (more ++ qs) b t after held.0 ready (more_stop pss qs after e) (λ c u same'. more_fit pss held.1 c u qs after e (next_from before c qs after (same' ∙ same) next))))

  pub joined_keep : (pss : List (List Piece)) → All Fit pss → Keeps (joined between pss)
  joined_keep [] held = λ before. refl
  joined_keep (ps ∷ pss) held = keeps_append ps (more_joined between pss) held.0.keeps (more_keep pss held.1)

  pub joined_fit : (pss : List (List Piece)) → All Fit pss → (before : Before) (s : Bool) (qs : List Piece) (after : List ℕ) → Ready before → stop (text_of qs ++ after) ≡ true → Next before qs after
      → Fits before s (joined between pss ++ qs) after
  joined_fit [] held before s qs after ready e next = next before s refl
  joined_fit (ps ∷ pss) held before s qs after ready e next =
      let more = more_joined between pss in
      subst (λ (v : List Piece). Fits before s v after) (sym (pieces_assoc ps more qs))
      (then ps (more ++ qs) before s after held.0 ready (more_stop pss qs after e) (λ b t same. more_fit pss held.1 b t qs after e (next_from before b qs after same next)))

-- ---- in parentheses

pub parenthesized_tail : (pss : List (List Piece)) (qs : List Piece) → All Fit pss → Tail qs → Tail (parenthesized (listed pss) ++ qs)
parenthesized_tail pss qs held tail =
    let ps = listed pss in
    let same : (ps ++ word l.CloseParenthesis ∷ []) ++ qs ≡ ps ++ (word l.CloseParenthesis ∷ qs) = pieces_assoc ps (word l.CloseParenthesis ∷ []) qs in record {
      fits = λ before s after e. (
        tt,
        refl,
        subst (λ (v : List Piece). Fits (put_behind before (k.Plain l.OpenParenthesis)) false v after) (sym same)
            (joined_fit comma commas pss held (put_behind before (k.Plain l.OpenParenthesis)) false (word l.CloseParenthesis ∷ qs) after refl refl
            (λ b t kept. (tt, refl, tail.fits (put_behind b (k.Plain l.CloseParenthesis)) false after e))),
      );
      keeps = λ before. subst Keeps (sym same) (keeps_append ps (word l.CloseParenthesis ∷ qs) (joined_keep comma commas pss held) (λ b. tail.keeps (put_behind b (k.Plain l.CloseParenthesis)))) (put_behind before (k.Plain l.OpenParenthesis));
      stops = λ after e. refl;
    }

pub in_parentheses_tail : (pss : List (List Piece)) (qs : List Piece) → All Fit pss → Tail qs → Tail (in_parentheses pss ++ qs)
in_parentheses_tail [] qs held tail = tail
in_parentheses_tail (ps ∷ pss) qs held tail = parenthesized_tail (ps ∷ pss) qs held tail

-- ---- lines

pub end_tail : (level : ℕ) → Tail (end_line level)
end_tail level = record {
  fits = λ before s after e. (tt, refl, (tt, w.end_word.standing (put_behind before (k.Plain l.Newline)) (blanked true (2 * level)) after e, tt));
  keeps = λ before. refl;
  stops = λ after e. refl;
}

at_line : (ps more qs : List Piece) (before : Before) (s : Bool) (after : List ℕ) → (ps ++ more) ++ qs ≡ ps ++ (more ++ qs) → Fit ps → Ready before → Tail (more ++ qs) → stop after ≡ true
    → Fits before s ((ps ++ more) ++ qs) after
at_line ps more qs before s after same fit ready rest e =
    subst (λ (v : List Piece). Fits before s v after) (sym same) (then ps (more ++ qs) before s after fit ready (rest.stops after e) (tail_next (more ++ qs) before after rest e))

pub lines_tail : (xs : List Tree) (level : ℕ) (qs : List Piece) → All Lays xs → Tail qs → Tail (lines level (map laid xs) ++ qs)
lines_tail [] level qs held tail = tail
lines_tail (x ∷ xs) level qs held tail =
    let ps = bare level (laid x) in let more = lines level (map laid xs) in
    let rest : Tail (more ++ qs) = lines_tail xs level qs held.1 tail in
    let same : (ps ++ more) ++ qs ≡ ps ++ (more ++ qs) = pieces_assoc ps more qs in record {
      fits = λ before s after e. (tt, refl, at_line ps more qs (put_behind before (k.Plain l.Newline)) (blanked true (2 * level)) after same (held.0 level) refl rest e);
      keeps = λ before. subst Keeps (sym same) (keeps_append ps (more ++ qs) (held.0 level).keeps rest.keeps) (put_behind before (k.Plain l.Newline));
      stops = λ after e. refl;
    }

pub lines_last : (xs : List Tree) (level : ℕ) → All Lays xs → Tail (lines level (map laid xs))
lines_last xs level held = subst Tail (pieces_nil (lines level (map laid xs))) (lines_tail xs level [] held no_tail)

pub body_tail : (xs : List Tree) (level : ℕ) → All Lays xs → Tail (body level (map laid xs))
body_tail xs level held = lines_tail xs (suc level) (end_line level) held (end_tail level)

pub else_tail : (xs : Option (List Tree)) (level : ℕ) (qs : List Piece) → Any (All Lays) xs → Tail qs → Tail (else_lines level (option_map (map laid) xs) ++ qs)
else_tail None level qs held tail = tail
else_tail (Some xs) level qs held tail =
    let rest : Tail (lines (suc level) (map laid xs) ++ qs) = lines_tail xs (suc level) qs held tail in record {
      fits = λ before s after e. (tt, refl, (tt, w.else_word.standing (put_behind before (k.Plain l.Newline)) (blanked true (2 * level)) (text_of (lines (suc level) (map laid xs) ++ qs) ++ after) (rest.stops after e), rest.fits (put_behind (put_behind before (k.Plain l.Newline)) (k.Plain l.Else)) false after e));
      keeps = λ before. rest.keeps (put_behind (put_behind before (k.Plain l.Newline)) (k.Plain l.Else));
      stops = λ after e. refl;
    }

-- ---- constructs of a list

pub arguments_fit : (xs : List Tree) (level : ℕ) → All Lays xs → All Fit (map (argument level) (map laid xs))
arguments_fit [] level held = tt
arguments_fit (x ∷ xs) level held = (enclosed_fit (argument_encloses (shape_of (laid x))) (bare level (laid x)) (held.0 level), arguments_fit xs level held.1)

pub bare_fit : (xs : List Tree) (level : ℕ) → All Lays xs → All Fit (map (bare level) (map laid xs))
bare_fit [] level held = tt
bare_fit (x ∷ xs) level held = (held.0 level, bare_fit xs level held.1)
