-- Types are read from their layout.
use Rattle.std.proofs.Common.{◌≡◌, ℕ, suc, Bool, true, false, List, [], ◌∷◌, ◌++◌, map, Option, Some, None, refl, sym, ap, subst, ◌∙◌, inl, inr}
use Rattle.std.specs.Option.{option_map}
use Rattle.std.specs.Prelude.{is_some}
use Rattle.cr_syntax.specs.Look.{look_of}
use Rattle.cr_syntax.specs.declared.look.TokenLook.TheVariants as l
use Rattle.cr_syntax.specs.declared.token.TokenKind.TheVariants as k
use Rattle.cr_grammar.specs.declared.tree.Tree.{Tree}
use Rattle.cr_grammar.specs.declared.tree.Tree.TheVariants as tree
use Rattle.cr_grammar.specs.declared.word.Atom.{Atom}
use Rattle.cr_grammar.specs.declared.word.Path.{Path}
use Rattle.cr_grammar.specs.declared.word.Word.{Word}
use Rattle.cr_grammar.specs.declared.wanted.Wanted.{Wanted}
use Rattle.cr_grammar.specs.declared.wanted.Wanted.TheVariants.{Written}
use Rattle.cr_grammar.specs.Forms.{Form, ◌>>=◌, ◌>>◌, nothing, maybe, many, word, constant, tight}
use Rattle.cr_grammar.specs.Same.{unplaced}
use Rattle.cr_grammar.specs.Expressions as ex
use Rattle.cr_pieces.specs.Pieces.{Piece, Put}
use Rattle.cr_pieces.specs.Fits.{spaced_behind}
use Rattle.cr_pieces.proofs.Joined.{spaced_append}
use Rattle.cr_pretty.specs.Layout as y
use Rattle.cr_pretty.specs.Layout.{Laid, laid, bare, space, more_joined, joined}
use Rattle.cr_pretty.proofs.Laid as of
use Rattle.cr_round_trip.proofs.Known.{All, Any, IsPath}
use Rattle.cr_round_trip.proofs.Fit.{pieces_nil, pieces_assoc}
use Rattle.cr_round_trip.proofs.Unplaced as un
use Rattle.cr_round_trip.proofs.Reading.{Scheme, Reads, Like, AllLike, AnyLike, weaker, skip, at_tight, one_token, as_pieces, up, then, gives, on_word, on_name, spaced, one_of, other, closely, none, some_one, no_more, one_more, both_like}
use Rattle.cr_round_trip.proofs.Values.{closes_behind}
use Rattle.cr_round_trip.proofs.Lines.{Each, then_last, listed_reads, in_parentheses_reads}

-- a type
pub record Typed (flag : Bool) (x : Tree) : Type 0 where
  pub reads : (level : ℕ) (s : Bool) → Reads (λ S. S (Written flag)) (Like x) s (bare level (laid x))
  pub closes : (level : ℕ) (s : Bool) → spaced_behind s (bare level (laid x)) ≡ false
  pub plain : y.argument_encloses (y.shape_of (laid x)) ≡ false

-- one of its classes, without `?`
abbrev pub IsOf : Tree → Atom → Type 0
IsOf x a = Like x (ex.atom_tree a) × (a.question ≡ None)

pub record AtomRead (flag : Bool) (x : Tree) : Type 0 where
  pub reads : (level : ℕ) (s : Bool) → Reads (λ S. ex.atom S flag) (IsOf x) s (bare level (laid x))
  pub closes : (level : ℕ) (s : Bool) → spaced_behind s (bare level (laid x)) ≡ false

abbrev Names : List (List ℕ) → List (List Piece)
Names names = map (λ name. Put (k.Constant name) ∷ []) names

-- ---- paths

more_names : (names : List (List ℕ)) (s : Bool) → Reads (λ S. many (word l.ColonColon >> constant)) (λ found. map (λ (x : Word). x.text) found ≡ names) s (more_joined (y.word l.ColonColon ∷ []) (Names names))
more_names [] s = no_more refl
more_names (name ∷ names) s = one_more {P = λ (x : Word). x.text ≡ name} (y.word l.ColonColon ∷ Put (k.Constant name) ∷ []) (more_joined (y.word l.ColonColon ∷ []) (Names names))
    (λ x xs p q. ap (λ (v : List ℕ). v ∷ map (λ (z : Word). z.text) xs) p ∙ ap (λ (v : List (List ℕ)). name ∷ v) q)
    (on_word l.ColonColon (Put (k.Constant name) ∷ []) (λ at. a_name)) (more_names names false)
  where
    a_name : Reads (λ S. constant) (λ (x : Word). x.text ≡ name) false (Put (k.Constant name) ∷ [])
    a_name = record { found = λ w b. record { result = record { at = (b.0).span.first; text = name }; passes = refl; depth = 0; spells = λ m le. (b.0, b.2 ∙ ap (λ (z : _). b.0 ∷ z) b.5, (b.3, refl)) } }

path_reads : (path : List (List ℕ)) → IsPath path → (s : Bool) → Reads (λ S. ex.path) (λ (p : Path). p.names ≡ path) s (joined (y.word l.ColonColon ∷ []) (Names path))
path_reads [] is s = absurd is
path_reads (name ∷ names) is s = on_name (λ text. k.Constant text) name (more_joined (y.word l.ColonColon ∷ []) (Names names))
    (λ at. then_last (more_joined (y.word l.ColonColon ∷ []) (Names names)) (more_names names false) (λ found h. gives (record { at = at; names = name ∷ map (λ (x : Word). x.text) found }) (ap (λ (v : List (List ℕ)). name ∷ v) h)))

more_names_close : (names : List (List ℕ)) (s : Bool) → s ≡ false → spaced_behind s (more_joined (y.word l.ColonColon ∷ []) (Names names)) ≡ false
more_names_close [] s e = e
more_names_close (name ∷ names) s e = more_names_close names false refl

path_closes : (path : List (List ℕ)) → IsPath path → (s : Bool) → spaced_behind s (joined (y.word l.ColonColon ∷ []) (Names path)) ≡ false
path_closes [] is s = absurd is
path_closes (name ∷ names) is s = more_names_close names false refl

-- ---- arguments of types

pub types_each : (flag : Bool) (level : ℕ) (xs : List Tree) → All (Typed flag) xs → Each (λ S. S (Written flag)) (bare level) xs
types_each flag level [] h = tt
types_each flag level (x ∷ xs) h = ((h.0).reads level, types_each flag level xs h.1)

type_arguments : (flag : Bool) (level : ℕ) (xs : List Tree) → All (Typed true) xs → (flag ≡ false → xs ≡ []) → Reads (λ S. ex.type_arguments S flag) (AllLike xs) false (y.in_parentheses (map (bare level) (map laid xs)))
type_arguments true level [] held empty = other (gives [] refl)
type_arguments true level (x ∷ xs) held empty =
    let ps = y.listed (map (bare level) (map laid (x ∷ xs))) in
    one_of (closely (k.Plain l.OpenParenthesis) (ps ++ y.word l.CloseParenthesis ∷ []) (in_parentheses_reads ps (listed_reads (λ S. S (Written true)) (bare level) x xs (types_each true level (x ∷ xs) held) false)))
type_arguments false level [] held empty = gives [] refl
type_arguments false level (x ∷ xs) held empty = absurd (let no = empty refl in cc)

parentheses_close : (pss : List (List Piece)) → spaced_behind false (y.in_parentheses pss) ≡ false
parentheses_close [] = refl
parentheses_close (ps ∷ pss) = closes_behind false (y.listed (ps ∷ pss)) (y.word l.CloseParenthesis ∷ []) (λ t. refl)

-- the pieces of an atom, with a question behind them or none
abbrev pub atom_pieces : List (List ℕ) → List Tree → ℕ → List Piece
atom_pieces path xs level = joined (y.word l.ColonColon ∷ []) (Names path) ++ y.in_parentheses (map (bare level) (map laid xs))

pub atom_closes : (path : List (List ℕ)) (xs : List Tree) (level : ℕ) → IsPath path → (s : Bool) → spaced_behind s (atom_pieces path xs level) ≡ false
atom_closes path xs level is s =
    let named = joined (y.word l.ColonColon ∷ []) (Names path) in let args = y.in_parentheses (map (bare level) (map laid xs)) in
    spaced_append s named args ∙ ap (λ (t : Bool). spaced_behind t args) (path_closes path is s) ∙ parentheses_close (map (bare level) (map laid xs))

-- ---- atoms and types

pub atom_read : (flag : Bool) (at : ℕ) (path : List (List ℕ)) (xs : List Tree) → IsPath path → All (Typed true) xs → (flag ≡ false → xs ≡ []) → AtomRead flag (tree.Atom at path xs)
atom_read flag at path xs is held empty = record {
  reads = λ level s. subst (λ (v : Laid). Reads (λ S. ex.atom S flag) (IsOf (tree.Atom at path xs)) s (bare level v)) (sym (of.of_atom at path xs)) (reads level s);
  closes = λ level s. subst (λ (v : Laid). spaced_behind s (bare level v) ≡ false) (sym (of.of_atom at path xs)) (atom_closes path xs level is s);
}
  where
    reads : (level : ℕ) (s : Bool) → Reads (λ S. ex.atom S flag) (IsOf (tree.Atom at path xs)) s (atom_pieces path xs level)
    reads level s =
        let named = joined (y.word l.ColonColon ∷ []) (Names path) in let args = y.in_parentheses (map (bare level) (map laid xs)) in
        then named args (path_reads path is s) (λ p hp. then_last args (at_tight args (path_closes path is s) (type_arguments flag level xs held empty))
        (λ zs hz. skip (gives (record { path = p; arguments = zs; question = None }) (simp (un.constructs, hp, hz), refl))))

-- a class in front of `new`, maybe with `?` behind it
pub record IsClass (x : Tree) (path : List (List ℕ)) (question : Bool) (a : Atom) : Type 0 where
  pub like : Like x (ex.atom_tree a)
  pub names : (a.path).names ≡ path
  pub asks : is_some a.question ≡ question

pub class_reads : (at : ℕ) (path : List (List ℕ)) (xs : List Tree) (question : Bool) → IsPath path → All (Typed true) xs → (level : ℕ) (s : Bool)
    → Reads (λ S. ex.atom S true) (IsClass (tree.Atom at path xs) path question) s (bare level (laid (tree.Atom at path xs)) ++ y.question_mark question)
class_reads at path xs question is held level s =
    subst (λ (v : Laid). Reads (λ S. ex.atom S true) (IsClass (tree.Atom at path xs) path question) s (bare level v ++ y.question_mark question)) (sym (of.of_atom at path xs))
    (as_pieces ((named ++ args) ++ y.question_mark question) (named ++ (args ++ y.question_mark question)) (pieces_assoc named args (y.question_mark question))
    (then named (args ++ y.question_mark question) (path_reads path is s) (λ p hp. then args (y.question_mark question) (at_tight args (path_closes path is s) (type_arguments true level xs held (λ e. absurd cc)))
    (λ zs hz. by_question question (spaced_behind (spaced_behind s named) args) (ap (λ (t : Bool). spaced_behind t args) (path_closes path is s) ∙ parentheses_close (map (bare level) (map laid xs))) p zs hp hz))))
  where
    named : List Piece
    named = joined (y.word l.ColonColon ∷ []) (Names path)

    args : List Piece
    args = y.in_parentheses (map (bare level) (map laid xs))

    by_question : (q : Bool) (t : Bool) → t ≡ false → (p : Path) (zs : List Tree) → p.names ≡ path → AllLike xs zs
        → Reads (λ S. maybe (tight (word l.Question)) >>= (λ found. nothing (record { path = p; arguments = zs; question = found }))) (IsClass (tree.Atom at path xs) path q) t (y.question_mark q)
    by_question false t e p zs hp hz = skip (gives (record { path = p; arguments = zs; question = None }) (record { like = simp (un.constructs, hp, hz); names = hp; asks = refl }))
    by_question true t e p zs hp hz = at_tight (y.word l.Question ∷ []) e (then_last {P = λ (z : Option ℕ). is_some z ≡ true} (y.word l.Question ∷ [])
        (some_one {P = λ (z : ℕ). Unit {0}} (λ z u. refl) (closely (k.Plain l.Question) [] (one_token (k.Plain l.Question) (λ t'. (t'.span).first) (λ S t' is'. (t', refl, (ap look_of is', refl))) (λ t'. tt))))
        (λ found some. gives (record { path = p; arguments = zs; question = found }) (record { like = simp (un.constructs, hp, hz); names = hp; asks = some })))

-- atoms without `?`, as a list of trees
abbrev AreOf : List Tree → List Atom → Type 0
AreOf xs found = map unplaced (ex.all_atoms found) ≡ map unplaced xs

first_of : (x : Tree) (xs : List Tree) (a : Atom) (found : List Atom) → IsOf x a → AreOf xs found → AreOf (x ∷ xs) (a ∷ found)
first_of x xs a found h hs =
    ap (λ (q : Option ℕ). map unplaced ((ex.atom_tree a ∷ ex.question_atoms q) ++ ex.all_atoms found)) h.1 ∙ both_like x (ex.atom_tree a) xs (ex.all_atoms found) h.0 hs

module _ (flag : Bool) (level : ℕ) where
  more_atoms : (xs : List Tree) → All (AtomRead flag) xs → (s : Bool) → Reads (λ S. many (word l.Pipe >> ex.atom S flag)) (AreOf xs) s (more_joined y.bar (map (bare level) (map laid xs)))
  more_atoms [] held s = no_more refl
  more_atoms (x ∷ xs) held s =
      let ps = bare level (laid x) in
      one_more {P = IsOf x} (space ∷ y.word l.Pipe ∷ space ∷ ps) (more_joined y.bar (map (bare level) (map laid xs))) (λ a found p q. first_of x xs a found p q)
      (spaced 1 (y.word l.Pipe ∷ space ∷ ps) (on_word l.Pipe (space ∷ ps) (λ at. spaced 1 ps ((held.0).reads level true)))) (more_atoms xs held.1 (spaced_behind true ps))

  more_close : (xs : List Tree) → All (AtomRead flag) xs → (s : Bool) → s ≡ false → spaced_behind s (more_joined y.bar (map (bare level) (map laid xs))) ≡ false
  more_close [] held s e = e
  more_close (x ∷ xs) held s e =
      let ps = bare level (laid x) in let more = more_joined y.bar (map (bare level) (map laid xs)) in
      spaced_append true ps more ∙ more_close xs held.1 (spaced_behind true ps) ((held.0).closes level true)

pub union_read : (flag : Bool) (x : Tree) (xs : List Tree) → AtomRead flag x → All (AtomRead flag) xs → Typed flag (tree.Union (x ∷ xs))
union_read flag x xs first held = record {
  reads = λ level s. subst (λ (v : Laid). Reads (λ S. S (Written flag)) (Like (tree.Union (x ∷ xs))) s (bare level v)) (sym (of.of_union (x ∷ xs))) (up (Written flag) (reads level s));
  closes = λ level s. subst (λ (v : Laid). spaced_behind s (bare level v) ≡ false) (sym (of.of_union (x ∷ xs)))
      (spaced_append s (bare level (laid x)) (more_joined y.bar (map (bare level) (map laid xs))) ∙ more_close flag level xs held (spaced_behind s (bare level (laid x))) (first.closes level s));
  plain = ap (λ (v : Laid). y.argument_encloses (y.shape_of v)) (of.of_union (x ∷ xs));
}
  where
    reads : (level : ℕ) (s : Bool) → Reads (λ S. ex.written S flag) (Like (tree.Union (x ∷ xs))) s (joined y.bar (map (bare level) (map laid (x ∷ xs))))
    reads level s =
        let ps = bare level (laid x) in let more = more_joined y.bar (map (bare level) (map laid xs)) in
        then ps more (first.reads level s) (λ a h. then_last more (more_atoms flag level xs held (spaced_behind s ps))
        (λ found hs. gives (tree.Union (ex.all_atoms (a ∷ found))) (un.of_union (ex.all_atoms (a ∷ found)) ∙ ap (λ (zs : List Tree). tree.Union zs) (first_of x xs a found h hs) ∙ sym (un.of_union (x ∷ xs)))))

-- ---- optional types

pub restriction_reads : (level : ℕ) (type : Option Tree) → Any (Typed true) type → (s : Bool) → Reads (λ S. maybe (word l.Colon >> S (Written true))) (AnyLike type) s (y.restriction level (option_map laid type))
restriction_reads level None held s = none refl
restriction_reads level (Some x) held s = some_one {P = Like x} (λ z h. ap (λ (v : Tree). Some v) h)
    (spaced 1 (y.word l.Colon ∷ space ∷ bare level (laid x)) (on_word l.Colon (space ∷ bare level (laid x)) (λ at. spaced 1 (bare level (laid x)) (held.reads level true))))

pub of_type_reads : (level : ℕ) (type : Option Tree) → Any (Typed true) type → (s : Bool) → Reads (λ S. maybe (word l.Of >> S (Written true))) (AnyLike type) s (y.of_type level (option_map laid type))
of_type_reads level None held s = none refl
of_type_reads level (Some x) held s = some_one {P = Like x} (λ z h. ap (λ (v : Tree). Some v) h)
    (spaced 1 (y.word l.Of ∷ space ∷ bare level (laid x)) (on_word l.Of (space ∷ bare level (laid x)) (λ at. spaced 1 (bare level (laid x)) (held.reads level true))))

pub of_type_closes : (level : ℕ) (type : Option Tree) → Any (Typed true) type → spaced_behind false (y.of_type level (option_map laid type)) ≡ false
of_type_closes level None held = refl
of_type_closes level (Some x) held = held.closes level true
