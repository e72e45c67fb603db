-- What is counted in types.
use Rattle.std.proofs.Common.{◌≡◌, ℕ, ◌+◌, max, Bool, true, false, cond, List, [], ◌∷◌, ◌++◌, map, Option, Some, None, refl, sym, ap, ◌∙◌, append_assoc, arith}
use Rattle.std.proofs.lemmas.List.Sums.{sum_by-cons, sum_by-append}
use Rattle.std.specs.Prelude.{sum}
use Rattle.std.proofs.lemmas.List.{append-nil, append_cancel_right, map-append}
use Rattle.cr_syntax.specs.declared.look.TokenLook.TheVariants as l
use Rattle.cr_syntax.specs.declared.token.Token.{Token}
use Rattle.cr_syntax.specs.declared.token.TokenKind.TheVariants as k
use Rattle.cr_syntax.specs.Look.{look_of}
use Rattle.cr_grammar.specs.declared.tree.Tree.{Tree, the_lemmas}
use Rattle.cr_grammar.specs.declared.tree.Tree.TheVariants as tree
use Rattle.cr_grammar.specs.Count.{nodes, nesting}
use Rattle.cr_grammar.specs.declared.word.Word.{Word}
use Rattle.cr_grammar.specs.Forms.{Form}
use Rattle.cr_grammar.specs.Forms as f
use Rattle.cr_grammar.specs.Operators as o
use Rattle.cr_grammar.specs.declared.wanted.Wanted.{Wanted}
use Rattle.cr_grammar.specs.declared.wanted.Wanted.TheVariants.{Written}
use Rattle.cr_grammar.specs.declared.word.Atom.{Atom}
use Rattle.cr_grammar.specs.declared.word.Path.{Path}
use Rattle.cr_grammar.specs.Expressions as ex
use Rattle.cr_readers.specs.Reader.{State, Outcome, Found, Failed, Reader, and_then, Test, seen, tight_seen, same_look, either, never, expect, many, pure, take, taken, next, grow, part, beside, ◌>>=◌, ◌>>◌}
use Rattle.cr_readers.specs.Lists.{optional, listed}
use Rattle.cr_exact.specs.Exact.{at, head, Effort, Exact, Any}
use Rattle.cr_exact.specs.Limits.{Tally, known, unknown, Counts, Second, Marks, Whole, Rises, last_place, tall, size_of_all, top_of_all, if_some}
use Rattle.cr_readers.specs.Goes.{goes_type}
use Rattle.cr_readers.specs.Words.{constant}
use Rattle.cr_readers.specs.Types as types
use Rattle.cr_exact.proofs.TokenTests.{same_look_is, less_seen, less_left, less_right, stops_less, less_either}
use Rattle.cr_exact.proofs.Sequence.{exact_bind, weaken, bind_found, parts_found}
use Rattle.cr_exact.proofs.Tokens.{Passing, exact_word}
use Rattle.cr_exact.proofs.Forms.{made_in}
use Rattle.cr_exact.proofs.Heads.{led_seen, led, first_bind, led_at}
use Rattle.cr_exact.proofs.Follows.{follows_bind, follows_many, follows_never, follows_led, follows_nothing}
use Rattle.cr_exact.proofs.Nodes.{exact_part, exact_beside}
use Rattle.cr_exact.proofs.Limits.{head-some, some_behind, last_place_behind, second, counts_bind_by, counts_bind, counts_bind_quiet, counts_still_then, counts_pure, counts_silent, counts_weaken, counts_map, counts_goes, still_pure, still_take, still_many, still_bind}
use Rattle.cr_exact.proofs.LimitSteps.{second_node, adds_grow, adds_beside, counts_grown}
use Rattle.cr_exact.proofs.LimitChoices.{passing_same}
use Rattle.cr_exact.proofs.LimitParts.{tall_cons, tall_append, known_is, rises_part, rises_beside, rises_pure, rises_many}
use Rattle.cr_exact.proofs.LimitLists.{still_word, still_optional, rises_listed_parts, rises_tight_or}
use Rattle.cr_descent.proofs.Claims as claims
use Rattle.cr_descent.proofs.LimitClaims as limits
use Rattle.cr_descent.proofs.Words.{exact_constant}
use Rattle.cr_descent.proofs.Types as t
use Rattle.cr_descent.proofs.LimitNodes.{parts_high}
use Rattle.cr_descent.proofs.LimitTable.{part_height}

-- ---- the nodes of a type

-- the nodes of an atom, with that of its `?`
abbrev pub atom_nodes : Atom → ℕ
atom_nodes a = 1 + size_of_all nodes a.arguments + if_some (λ _. 1) a.question

abbrev pub atom_height : Atom → ℕ
atom_height a = max 1 (top_of_all part_height a.arguments)

abbrev pub asked_height : Atom → ℕ
asked_height a = max (atom_height a) (if_some (λ _. 1) a.question)

pub atom_is : (at : ℕ) (names : List (List ℕ)) (arguments : List Tree) → nodes (tree.Atom at names arguments) ≡ 1 + sum (map nodes arguments)
atom_is at names arguments = search the_lemmas

pub atom_nests : (at : ℕ) (names : List (List ℕ)) (arguments : List Tree) → nesting (tree.Atom at names arguments) ≡ 1 + tall (map nesting arguments)
atom_nests at names arguments = search the_lemmas

union_is : (atoms : List Tree) → nodes (tree.Union atoms) ≡ sum (map nodes atoms)
union_is atoms = grind (arith, the_lemmas)

union_nests : (atoms : List Tree) → nesting (tree.Union atoms) ≡ tall (map nesting atoms)
union_nests atoms = grind (arith, the_lemmas)

question_is : (question : Option ℕ) → sum (map nodes (ex.question_atoms question)) ≡ if_some (λ _. 1) question
question_is None = refl
question_is (Some place) =
    let a = atom_is place (o.nil_name ∷ []) [] in
    let b = sum_by-cons (λ n. n) (nodes (tree.Atom place (o.nil_name ∷ []) [])) [] in
    omega (arith, a, b)

question_nests : (question : Option ℕ) → tall (map nesting (ex.question_atoms question)) ≡ if_some (λ _. 1) question
question_nests None = refl
question_nests (Some place) =
    let a = atom_nests place (o.nil_name ∷ []) [] in
    let b = tall_cons (nesting (tree.Atom place (o.nil_name ∷ []) [])) [] in
    omega (arith, a, b)

atoms_are : (a : Atom) → sum (map nodes (ex.atoms_of a)) ≡ atom_nodes a
atoms_are a =
    let c = atom_is a.path.at a.path.names a.arguments in
    let d = sum_by-cons (λ n. n) (nodes (ex.atom_tree a)) (map nodes (ex.question_atoms a.question)) in
    let e = question_is a.question in
    omega (arith, c, d, e)

atoms_nest : (a : Atom) → tall (map nesting (ex.atoms_of a)) ≡ asked_height a
atoms_nest a =
    let c = atom_nests a.path.at a.path.names a.arguments in
    let d = tall_cons (nesting (ex.atom_tree a)) (map nesting (ex.question_atoms a.question)) in
    let e = question_nests a.question in
    let h = parts_high 1 a.arguments (omega arith) in
    omega (arith, c, d, e, h)

all_atoms_are : (atoms : List Atom) → sum (map nodes (ex.all_atoms atoms)) ≡ size_of_all atom_nodes atoms
all_atoms_are [] = refl
all_atoms_are (a ∷ more) =
    let c = ap (λ (v : List ℕ). sum v) (map-append nodes (ex.atoms_of a) (ex.all_atoms more)) ∙ sum_by-append (λ n. n) (map nodes (ex.atoms_of a)) (map nodes (ex.all_atoms more)) in
    let d = sum_by-cons (λ n. n) (atom_nodes a) (map atom_nodes more) in
    let e = all_atoms_are more in
    let h = atoms_are a in
    omega (arith, c, d, e, h)

all_atoms_nest : (atoms : List Atom) → tall (map nesting (ex.all_atoms atoms)) ≡ top_of_all asked_height atoms
all_atoms_nest [] = refl
all_atoms_nest (a ∷ more) =
    let c = ap (λ (v : List ℕ). tall v) (map-append nesting (ex.atoms_of a) (ex.all_atoms more)) ∙ tall_append (map nesting (ex.atoms_of a)) (map nesting (ex.all_atoms more)) in
    let d = tall_cons (asked_height a) (map asked_height more) in
    let e = all_atoms_nest more in
    let h = atoms_nest a in
    omega (arith, c, d, e, h)

-- What is counted atom by atom is counted of their union.
union_told : (n : ℕ) (first : Atom) (more : List Atom)
    → known (n + nodes (tree.Union (ex.all_atoms (first ∷ more)))) (nesting (tree.Union (ex.all_atoms (first ∷ more)))) ≡ known (n + atom_nodes first + size_of_all atom_nodes more) (max (asked_height first) (top_of_all asked_height more))
union_told n first more =
    let c = union_is (ex.all_atoms (first ∷ more)) in
    let d = all_atoms_are (first ∷ more) in
    let e = sum_by-cons (λ n. n) (atom_nodes first) (map atom_nodes more) in
    let h = union_nests (ex.all_atoms (first ∷ more)) in
    let i = all_atoms_nest (first ∷ more) in
    let j = tall_cons (asked_height first) (map asked_height more) in
    known_is _ _ _ _ (omega (arith, c, d, e)) (omega (arith, h, i, j))

-- ---- a `?` that is read is the last token

module _ (test : Test) {A : Type 0} (read : Token → Option ℕ) (make : Option ℕ → A) where
  abbrev asking : Reader A
  asking = optional test (take read) >>= λ question. pure (make question)

  taken_firm : (u : Token) (ts : List Token) (found : Option ℕ) (s : State) (y : A) (s' : State) → read u ≡ found → (make None ≡ y → ⊥)
      → and_then (taken found (at s (u ∷ ts))) (λ x. pure (make (Some x))) ≡ Found y s'
      → (ts ≡ s'.rest) × ((more : List Token) → and_then (taken (read u) (at s (u ∷ more))) (λ x. pure (make (Some x))) ≡ Found y (at s' more))
  unfolding next
  taken_firm u ts None s y s' is other e = absurd cc
  taken_firm u ts (Some x) s y s' is other e =
      let r = parts_found (make (Some x)) y (next (at s (u ∷ ts))) s' e in (
        ap (λ (m : State). m.rest) r.1,
        λ more. ap (λ v. and_then (taken v (at s (u ∷ more))) (λ x. pure (make (Some x)))) is
            ∙ ap (λ (m : State). Found (make (Some x)) (at m more)) r.1 ∙ ap (λ v. Found v (at s' more)) r.0,
      )

  asking_firm_by : (u : Token) (ts : List Token) (b : Bool) (s : State) (y : A) (s' : State) → test (look_of u.kind) u.spaced ≡ b → (make None ≡ y → ⊥)
      → and_then (cond b (take read >>= λ x. pure (Some x)) (pure None) (at s (u ∷ ts))) (λ question. pure (make question)) ≡ Found y s'
      → (ts ≡ s'.rest) × ((more : List Token) → asking (at s (u ∷ more)) ≡ Found y (at s' more))
  asking_firm_by u ts false s y s' is other e = absurd (other (parts_found (make None) y (at s (u ∷ ts)) s' e).0)
  asking_firm_by u ts true s y s' is other e =
      let r = taken_firm u ts (read u) s y s' refl other (sym (and_then_twice (take read (at s (u ∷ ts)))) ∙ e) in (
        r.0,
        λ more. ap (λ b. and_then (cond b (take read >>= λ x. pure (Some x)) (pure None) (at s (u ∷ more))) (λ question. pure (make question))) is
            ∙ and_then_twice (take read (at s (u ∷ more))) ∙ r.1 more,
      ) where
        and_then_twice : (found : Outcome ℕ) → and_then (and_then found (λ x. pure (Some x))) (λ question. pure (make question)) ≡ and_then found (λ x. pure (make (Some x)))
        and_then_twice (Found x m) = refl
        and_then_twice (Failed d m) = refl

  asking_firm : (ts : List Token) (s : State) (y : A) (s' : State) → (make None ≡ y → ⊥) → asking (at s ts) ≡ Found y s'
      → (front : List Token) × (front ≡ [] → ⊥) × (ts ≡ front ++ s'.rest) × ((more : List Token) → asking (at s (front ++ more)) ≡ Found y (at s' more))
  asking_firm [] s y s' other e = absurd (other (parts_found (make None) y (at s []) s' e).0)
  asking_firm (u ∷ ts) s y s' other e =
      let r = asking_firm_by u ts (test (look_of u.kind) u.spaced) s y s' refl other e in
      (u ∷ [], λ none. cc, ap (λ (v : List Token). u ∷ v) r.0, r.1)

-- What is found firmly behind something is found firmly with it.
firm_behind : {effort : Effort} {A B : Type 0} {R C : Form A} {g : Test} {p : Reader A} (q : A → Reader B) → Exact effort Any R C g p → (y : B)
    → ((x : A) (s s' : State) → q x s ≡ Found y s' → (front : List Token) × (front ≡ [] → ⊥) × (s.rest ≡ front ++ s'.rest) × ((more : List Token) → q x (at s (front ++ more)) ≡ Found y (at s' more)))
    → (s s' : State) → (p >>= q) s ≡ Found y s'
    → (front : List Token) × (front ≡ [] → ⊥) × (s.rest ≡ front ++ s'.rest) × ((more : List Token) → (p >>= q) (at s (front ++ more)) ≡ Found y (at s' more))
firm_behind {A = A} {p = p} q ep y firm s s' e =
    let c = bind_found (p s) q y s' e in
    let P = ep.found s c.0 c.1 tt c.2 in
    let Q = firm c.0 c.1 s' c.3 in (
      P.front ++ Q.0,
      some_behind P.front Q.0 Q.1,
      P.parts ∙ ap (λ (v : List Token). P.front ++ v) Q.2 ∙ sym (append_assoc P.front Q.0 s'.rest),
      λ more.
          let alike : head (Q.0 ++ more) ≡ head c.1.rest = head-some Q.0 more s'.rest Q.1 ∙ ap head (sym Q.2) in
          ap (λ (v : List Token). (p >>= q) (at s v)) (append_assoc P.front Q.0 more)
          ∙ ap (λ (found : Outcome A). and_then found q) (P.again (Q.0 ++ more) alike)
          ∙ Q.3 more,
    )

-- ---- types

question_marks : (n : ℕ) (w : List Token) (q : Option ℕ) → q ≡ Some n → f.maybe (f.tight (f.word l.Question)) w q → (last_place w ≡ n) × (w ≡ [] → ⊥)
question_marks n w None is c = absurd cc
question_marks n w (Some place) is c =
    let one = c.1 in
    let same : place ≡ n = some_is place n is in
    (ap last_place one.1 ∙ sym one.2.1 ∙ same, λ e. let none : one.0 ∷ [] ≡ [] = sym one.1 ∙ e in cc) where
      some_is : (a b : ℕ) → let some : ℕ → Option ℕ = Some in some a ≡ some b → a ≡ b
      some_is a b e = cc

module _ {effort : Effort} {rec : Wanted → Reader Tree} {S T : Wanted → Form Tree} (given : claims.Given effort rec S T) (counts : limits.GivenCounts rec T) where
  abbrev goes_path : Test
  goes_path = t.goes_path given

  abbrev pub goes_atom : Test
  goes_atom = t.goes_atom given

  abbrev goes_union : Test
  goes_union = t.goes_union given

  abbrev atom_reader : Bool → Reader Atom
  atom_reader with_arguments = types.atom effort.turns rec with_arguments

  -- the node of an atom
  counts_path : (n : ℕ) → Counts Any ex.path goes_path (unknown n) (λ x. known (n + 1) 1) (types.path effort.turns rec)
  counts_path n =
      counts_grown t.rest_of goes_path (λ (first : Word). first.at)
      (λ first. many (seen l.ColonColon) (expect l.ColonColon >> constant) effort.turns >>= λ more. pure (t.path_of first more)) (λ x. known (n + 1) 1)
      (λ u x e. sym e.1) (exact_constant effort never) (λ first. follows_never (t.rest_of first) goes_path) n
      (λ first. counts_still_then (f.many t.one_more) (λ more. f.nothing (t.path_of first more)) goes_path (λ more. pure (t.path_of first more)) (known (n + 1) 1) (λ x. known (n + 1) 1)
      (still_many (seen l.ColonColon) effort.turns (still_bind (still_word l.ColonColon) (λ at. still_take _)))
      (λ more. counts_pure (t.path_of first more) goes_path (known (n + 1) 1) (λ x. known (n + 1) 1) refl)
      (λ more. (still_pure (t.path_of first more)).lets))

  rises_arguments : (with_arguments : Bool)
      → Rises (size_of_all nodes) (top_of_all part_height) Any (ex.type_arguments T with_arguments) (tight_seen l.OpenParenthesis) (types.type_arguments effort.turns rec with_arguments)
  unfolding same_look
  rises_arguments true =
      let some = given.some (Written true) in
      rises_tight_or effort (f.listed (S (Written true))) (f.listed (T (Written true))) (either (seen l.Comma) goes_type) (listed effort.turns (part (rec (Written true))))
      (t.exact_types given) (first_bind false (seen l.Newline) (T (Written true)) _ (t.no_line given true)) (λ spaced. refl) (λ spaced. refl)
      [] (size_of_all nodes) (top_of_all part_height) refl refl
      (rises_listed_parts effort (S (Written true)) (T (Written true)) goes_type (part (rec (Written true))) (exact_part (rec (Written true)) (given.exact (Written true)))
      (t.no_line given true) some.0 some.1 some.2 (λ look spaced is. rw (same_look_is look l.Comma is) refl)
      nodes part_height (rises_part nodes nesting (counts.written true)))
  rises_arguments false = rises_pure (size_of_all nodes) (top_of_all part_height) (tight_seen l.OpenParenthesis) [] refl refl

  abbrev make : Path → List Tree → Option ℕ → Atom
  make path arguments question = t.atom_of given path arguments question

  -- what is counted of an atom but for its `?`
  abbrev pub alone : ℕ → Atom → Tally
  alone n a = known (n + 1 + size_of_all nodes a.arguments) (atom_height a)

  pub counts_atom_alone : (with_arguments : Bool) (n : ℕ) → Counts Any (ex.atom T with_arguments) goes_atom (unknown n) (alone n) (atom_reader with_arguments)
  unfolding same_look
  counts_atom_alone with_arguments n =
      counts_bind _ goes_atom _ (alone n) (t.exact_path given) (counts_path n)
      (λ path. counts_bind _ goes_atom _ (alone n) (t.exact_type_arguments given with_arguments) (rises_arguments with_arguments (n + 1) 1)
      (λ arguments. counts_still_then (f.maybe (f.tight (f.word l.Question))) (λ question. f.nothing (make path arguments question)) goes_atom (λ question. pure (make path arguments question))
      (alone n (make path arguments None)) (alone n) (still_optional (tight_seen l.Question) (still_word l.Question))
      (λ question. counts_pure (make path arguments question) goes_atom (alone n (make path arguments None)) (alone n) refl)
      (λ question. (still_pure (make path arguments question)).lets))
      (λ arguments. t.question_follows given (tight_seen l.OpenParenthesis) refl
      (less_right (tight_seen l.OpenParenthesis) goes_path (either (tight_seen l.OpenParenthesis) (t.goes_question given))
      (less_left (tight_seen l.OpenParenthesis) (tight_seen l.OpenParenthesis) (t.goes_question given) (λ look spaced e. e)))
      (λ question. make path arguments question)))
      (λ path. follows_bind goes_path goes_atom _ _ (t.arguments_follow given with_arguments)
      (λ arguments. t.question_follows given goes_path refl (less_left goes_path goes_path (either (tight_seen l.OpenParenthesis) (t.goes_question given)) (λ look spaced e. e))
      (λ question. make path arguments question)))

  -- The `?` is the last token of an atom that has one.
  atom_marks : (with_arguments : Bool) (a : Atom) (n : ℕ) → a.question ≡ Some n → Marks (ex.atom S with_arguments) (atom_reader with_arguments) a n
  atom_marks with_arguments a n is = record { placed = placed; some = some; firm = firm } where
    ends : (w : List Token) (c : ex.atom S with_arguments w a) → (last_place w ≡ n) × (w ≡ [] → ⊥)
    ends w c =
        let d = c.5 in
        let e = d.5 in
        let question_is : e.2 ≡ Some n = sym (ap (λ (v : Atom). v.question) e.5.1) ∙ is in
        let M = question_marks n e.0 e.2 question_is e.4 in
        let last_part : e.0 ≡ d.1 = sym (e.3 ∙ ap (λ (v : List Token). e.0 ++ v) e.5.0 ∙ append-nil e.0) in
        let some : d.1 ≡ [] → ⊥ = λ none. M.1 (last_part ∙ none) in
        let inner = some_behind d.0 d.1 some in (
          ap last_place c.3 ∙ ap (λ (v : List Token). last_place (c.0 ++ v)) d.3
              ∙ last_place_behind c.0 (d.0 ++ d.1) inner ∙ last_place_behind d.0 d.1 some ∙ ap last_place (sym last_part) ∙ M.0,
          λ none. some_behind c.0 (d.0 ++ d.1) inner (ap (λ (v : List Token). c.0 ++ v) (sym d.3) ∙ sym c.3 ∙ none),
        )

    placed : (w : List Token) → ex.atom S with_arguments w a → last_place w ≡ n
    placed w c = (ends w c).0

    some : (w : List Token) → ex.atom S with_arguments w a → w ≡ [] → ⊥
    some w c = (ends w c).1

    other : (path : Path) (arguments : List Tree) → make path arguments None ≡ a → ⊥
    other path arguments e = let none : None ≡ Some n = ap (λ (v : Atom). v.question) e ∙ is in cc

    found : (s s' : State) → atom_reader with_arguments s ≡ Found a s'
        → (front : List Token) × (front ≡ [] → ⊥) × (s.rest ≡ front ++ s'.rest) × ((more : List Token) → atom_reader with_arguments (at s (front ++ more)) ≡ Found a (at s' more))
    found = firm_behind _ (t.exact_path given) a
        (λ path. firm_behind _ (t.exact_type_arguments given with_arguments) a
        (λ arguments s s' e. asking_firm (tight_seen l.Question) _ (λ question. make path arguments question) s.rest s a s' (other path arguments) e))

    firm : (s s' : State) (front more : List Token) → atom_reader with_arguments s ≡ Found a s' → s.rest ≡ front ++ s'.rest → ex.atom S with_arguments front a
        → atom_reader with_arguments (at s (front ++ more)) ≡ Found a (at s' more)
    firm s s' front more e parts c =
        let F = found s s' e in
        let same : F.0 ≡ front = append_cancel_right F.0 front s'.rest (sym F.2 ∙ parts) in
        ap (λ (v : List Token). atom_reader with_arguments (at s (v ++ more))) (sym same) ∙ F.3 more

  -- The node of the `?` is counted at its place.
  second_question : (a : Atom) (question : Option ℕ) (n h : ℕ) (to : Atom → Tally) → to a ≡ known (n + if_some (λ _. 1) question) (max h (if_some (λ _. 1) question))
      → Second (f.nothing a) goes_atom (known n h) to question (types.question_node effort.turns rec question >> pure a)
  second_question a None n h to is = second (counts_pure a goes_atom (known n h) to (is ∙ known_is (n + 0) n (max h 0) h (omega arith) (omega arith)))
  second_question a (Some place) n h to is =
      second_node place (adds_beside n (n + 1) 1 h place (grow place) (adds_grow n place)) (counts_pure a goes_atom (known (n + 1) (max h 1)) to is)

  counts_type_atom : (with_arguments : Bool) → Whole atom_nodes asked_height Any (ex.atom T with_arguments) goes_atom (types.type_atom effort.turns rec with_arguments)
  counts_type_atom with_arguments n =
      counts_map (ex.atom T with_arguments) (made_in (ex.atom T with_arguments) (λ y. y))
      (counts_bind_by (λ a. f.nothing a) goes_atom (λ a. types.question_node effort.turns rec a.question >> pure a) (λ a. known (n + atom_nodes a) (asked_height a)) (λ a. a.question)
      (t.exact_atom_alone given with_arguments) (counts_atom_alone with_arguments n)
      (λ a. second_question a a.question (n + 1 + size_of_all nodes a.arguments) (atom_height a) (λ v. known (n + atom_nodes v) (asked_height v)) (known_is _ _ _ _ (omega arith) refl))
      (atom_marks with_arguments)
      (λ a. follows_nothing goes_atom goes_atom a (λ look spaced e. e)))

  -- a type
  pub counts_written : (with_arguments : Bool) → limits.Trees (ex.written T with_arguments) goes_type (types.written effort.turns rec with_arguments)
  unfolding same_look
  counts_written with_arguments n =
      counts_goes goes_type (stops_less goes_union goes_type (less_either (seen l.Pipe) goes_atom goes_type (less_seen l.Pipe goes_type (λ spaced. refl)) (t.atom_less given)))
      (counts_bind (rest_of T) goes_union _ (λ x. known (n + nodes x) (nesting x)) (t.exact_type_atom given with_arguments) (counts_type_atom with_arguments n)
      (λ first. counts_bind_quiet (λ more. f.nothing (union first more)) goes_union _ (λ x. known (n + nodes x) (nesting x))
      (rises_many effort (seen l.Pipe) goes_atom (λ look spaced is. rw (same_look_is look l.Pipe is) (t.pipe_stops given spaced)) (one_atom S) (one_atom T) (expect l.Pipe >> beside (types.type_atom effort.turns rec with_arguments))
      (weaken _ (exact_bind (λ _. ex.atom S with_arguments) (λ _. ex.atom T with_arguments) goes_atom _ (exact_word effort (k.Plain l.Pipe) never)
      (λ _. exact_beside (types.type_atom effort.turns rec with_arguments) (t.exact_type_atom given with_arguments))
      (λ _. t.atom_some given with_arguments) (λ _. follows_never (ex.atom T with_arguments) goes_atom)))
      (λ w x rest c. led_seen l.Pipe w rest (led_at l.Pipe w c.0 c.1 c.2 c.3 c.4))
      atom_nodes asked_height one_more effort.turns (n + atom_nodes first) (asked_height first))
      (λ more. counts_pure (union first more) goes_union _ (λ x. known (n + nodes x) (nesting x)) (union_told n first more))
      (λ more. (still_pure (union first more)).lets)
      (λ more. follows_nothing goes_union goes_union (union first more) (λ look spaced e. e)))
      (λ first. follows_bind goes_atom goes_union _ _
      (follows_many goes_atom (one_atom T) (follows_led l.Pipe goes_atom goes_atom (one_atom T) (t.pipe_stops given) (led l.Pipe _)))
      (λ more. follows_nothing goes_atom goes_union (union first more) (less_right goes_atom (seen l.Pipe) goes_atom (λ look spaced e. e))))) where
        union : Atom → List Atom → Tree
        union first more = tree.Union (ex.all_atoms (first ∷ more))

        one_atom : (Wanted → Form Tree) → Form Atom
        one_atom Q = t.one_atom given Q with_arguments

        rest_of : (Wanted → Form Tree) → Atom → Form Tree
        rest_of Q = t.rest_of_union given Q with_arguments

        one_more : Rises atom_nodes asked_height (Passing (seen l.Pipe)) (t.one_atom given T with_arguments) goes_atom (expect l.Pipe >> beside (types.type_atom effort.turns rec with_arguments))
        one_more m h =
            counts_weaken (Passing (seen l.Pipe)) (passing_same (seen l.Pipe))
            (counts_bind (λ _. ex.atom T with_arguments) goes_atom (λ _. beside (types.type_atom effort.turns rec with_arguments)) (λ x. known (m + atom_nodes x) (max h (asked_height x)))
            (exact_word effort (k.Plain l.Pipe) never) (counts_silent (f.word l.Pipe) never (known m h) (still_word l.Pipe))
            (λ _. rises_beside atom_nodes asked_height (counts_type_atom with_arguments) m h)
            (λ _. follows_never (ex.atom T with_arguments) goes_atom))
