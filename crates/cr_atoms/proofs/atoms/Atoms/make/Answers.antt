use Rattle.std.proofs.Common.{◌≡◌, ◌<◌, ◌^◌, ◌++◌, ◌∷◌, [], ℕ, List, length, slice_get, Contains, Some, sym, ap, ◌∙◌, subst, arith, append-nil, length-append}
use Rattle.std.proofs.lemmas.Map.Entries.{length-keys_of}
use Rattle.std.specs.Map.{keys_of, values_of}
use Rattle.cr_base.specs.declared.ids.AtomId.{AtomId}
use Rattle.cr_atoms.specs.Table.{written, AreMade, depth_with}
use Rattle.cr_atoms.specs.Kept.{IsKept}
use Rattle.cr_atoms.specs.declared.atom.Atom.{Atom}
use Rattle.cr_atoms.specs.contracts.atom.AtomEq.TheImpl.Laws.{laws-law}
use Rattle.cr_atoms.proofs.Equal.{same_written, written_same}
use Rattle.cr_atoms.proofs.Found.{found_at, contained, absent, put_last, last_place}
use Rattle.cr_atoms.proofs.Tables.{keys_push, kept_push, stands_last}
use Rattle.cr_atoms.proofs.atoms.Atoms.make.Goals as goal

pub returns-in-Some-clause-number : goal.returns-in-Some-clause-number
returns-in-Some-clause-number c =
    subst (λ (atoms : List Atom). slice_get atoms c.in-Some.place ≡ Some (written c.args.class c.args.args.now)) c.self.view_is
    (found_at written_same (keys_of c.self.inside.depths.entries) (written c.args.class c.in_ok-args.args) c.in-Some.place c.in-Some.ensures.index
    ∙ ap (λ (args : List (List AtomId)). Some (written c.args.class args)) c.in_ok-args.ensures)

pub returns-in-Some-clause-fresh : goal.returns-in-Some-clause-fresh
returns-in-Some-clause-fresh c = λ none. absurd (none
    (subst (λ (atoms : List Atom). Contains atoms (written c.args.class c.args.args.now)) c.self.view_is
    (subst (λ (args : List (List AtomId)). Contains (keys_of c.self.inside.depths.entries) (written c.args.class args)) c.in_ok-args.ensures
    (contained written_same (keys_of c.self.inside.depths.entries) (written c.args.class c.in_ok-args.args) c.in-Some.place c.in-Some.ensures.index))))

-- the entries with the new one last
put : (c : goal.In_ok-place) → c.insert_full.new.self.entries ≡ c.self.inside.depths.entries ++ (written c.args.class c.in_ok-args.args, c.depth_with-depth.result) ∷ []
put c = put_last same_written c.self.inside.depths c.insert_full.new.self.entries (written c.args.class c.in_ok-args.args) c.depth_with-depth.result
    c.in_ok-place.ensures.entries c.in_default.ensures.found

atoms_after : (c : goal.In_ok-place) → keys_of c.insert_full.new.self.entries ≡ c.args.self.now ++ written c.args.class c.args.args.now ∷ []
atoms_after c =
    ap keys_of (put c)
    ∙ keys_push c.self.inside.depths.entries (written c.args.class c.in_ok-args.args) c.depth_with-depth.result
    ∙ ap (λ (atoms : List Atom). atoms ++ written c.args.class c.in_ok-args.args ∷ []) c.self.view_is
    ∙ ap (λ (args : List (List AtomId)). c.args.self.now ++ written c.args.class args ∷ []) c.in_ok-args.ensures

pub invariant_of-self-2 : goal.invariant_of-self-2
invariant_of-self-2 c =
    subst (λ (entries : List (Atom × ℕ)). IsKept (keys_of entries) (values_of entries)) (sym (put c))
    (kept_push c.self.inside.depths.entries (written c.args.class c.in_ok-args.args) c.depth_with-depth.result c.self.invariant
    (subst (λ (atoms : List Atom). length atoms < 2 ^ 32) (sym c.self.view_is) c.requires.room)
    (subst (λ (atoms : List Atom). AreMade atoms c.in_ok-args.args) (sym c.self.view_is) (subst (AreMade c.args.self.now) (sym c.in_ok-args.ensures) c.requires.made))
    (subst (λ (atoms : List Atom). c.depth_with-depth.result ≡ depth_with atoms c.in_ok-args.args) (sym c.self.view_is)
    (c.depth_with-depth.ensures.value ∙ ap (depth_with c.args.self.now) (sym c.in_ok-args.ensures)))
    c.if-depth-gt-DEEPEST.false)

pub returns-clause-number : goal.returns-clause-number
returns-clause-number c =
    let place : c.in_ok-place.place ≡ length c.args.self.now
    = last_place same_written c.self.inside.depths (written c.args.class c.in_ok-args.args) c.in_ok-place.place c.in_default.ensures.index c.in_ok-place.ensures.index
    (omega (arith, c.in_ok-place.ensures.within, ap length (atoms_after c), length-append c.args.self.now (written c.args.class c.args.args.now ∷ []), length-keys_of c.insert_full.new.self.entries, ap length c.self.view_is))
    ∙ ap length c.self.view_is in
    subst (λ (atoms : List Atom). slice_get atoms c.in_ok-place.place ≡ Some (written c.args.class c.args.args.now)) (sym (atoms_after c))
    (stands_last c.args.self.now (written c.args.class c.args.args.now) c.in_ok-place.place place)

pub returns-clause-known : goal.returns-clause-known
returns-clause-known c = λ there. absurd
    (absent laws-law (keys_of c.self.inside.depths.entries) (written c.args.class c.in_ok-args.args) c.in_default.ensures.index
    (subst (λ (atoms : List Atom). Contains atoms (written c.args.class c.in_ok-args.args)) (sym c.self.view_is)
    (subst (λ (args : List (List AtomId)). Contains c.args.self.now (written c.args.class args)) (sym c.in_ok-args.ensures) there)))

pub returns-clause-fresh : goal.returns-clause-fresh
returns-clause-fresh c = λ none. atoms_after c

pub returns-in-Some-clause-front : goal.returns-in-Some-clause-front
returns-in-Some-clause-front c = ([], sym (append-nil c.args.self.now))

pub returns-clause-front : goal.returns-clause-front
returns-clause-front c = (written c.args.class c.args.args.now ∷ [], atoms_after c)
