-- The walk round core trees makes their rows.
use Rattle.std.proofs.Common.{◌≡◌, ℕ, suc, ◌+◌, ◌<◌, ◌≤◌, List, [], ◌∷◌, ◌++◌, length, get_or, Option, Some, None, refl, sym, ap, ◌∙◌, arith, append_assoc, add-one, length-append}
use Rattle.std.specs.Prelude.{slice_get, slice_set}
use Rattle.std.proofs.lemmas.List.{append-nil}
use Rattle.std.proofs.lemmas.Option.{slice_get_read}
use Rattle.std.proofs.Math.Seq.{set-append_seam, get_or-append_seam}
use Rattle.cr_core.specs.declared.form.Form.{Form}
use Rattle.cr_base.specs.declared.ids.NodeId.{NodeId}
use Rattle.cr_core.specs.declared.row.Place.{Place}
use Rattle.cr_core.specs.declared.row.Event.{Event}
use Rattle.cr_core.specs.declared.row.Event.TheVariants.{Open, Close}
use Rattle.cr_core.specs.declared.row.Row.{Row}
use Rattle.cr_core.specs.declared.row.Within.{Within}
use Rattle.cr_core.specs.declared.walk.Begun.{Begun}
use Rattle.cr_core.specs.Core.{Core, none, node, ◌⊕◌, stream, size}
use Rattle.cr_core.specs.Arena.{node_id, inside, starts, layout, rows, outermost}
use Rattle.cr_core.specs.Walk.{Seen, with_parts, closed, opened, ended, step, steps, start}

pub length-layout : (w : Within) (n : ℕ) (c : Core) → length (layout w n c) ≡ size c
length-layout w n none = refl
length-layout w n (node f at ps rest) =
    let a = length-layout (inside f n w) (suc n) ps in
    let b = length-layout w (suc (n + size ps)) rest in
    omega (arith, length-append (layout (inside f n w) (suc n) ps) (layout w (suc (n + size ps)) rest))

-- the seen state behind some whole trees
abbrev behind : Core → Seen → Seen
behind c s = record {
  rows = s.rows ++ layout s.now.inside (length s.rows) c;
  now = record { row = s.now.row; inside = s.now.inside; parts = s.now.parts ++ starts (length s.rows) c };
  around = s.around;
}

abbrev seen_as : List Row → NodeId → Within → List NodeId → List Begun → Seen
seen_as rs n w ps around = record { rows = rs; now = record { row = n; inside = w; parts = ps }; around = around }

pub get_seam : (rs : List Row) (r : Row) (more : List Row) → slice_get (rs ++ r ∷ more) (length rs) ≡ Some r
get_seam rs r more = slice_get_read (rs ++ r ∷ more) (length (rs ++ r ∷ more)) (length rs) r refl (omega (arith, length-append rs (r ∷ more))) (sym (get_or-append_seam rs r more r))

closing : (rs : List Row) (r : Row) (more : List Row) (ps : List NodeId) → closed (length rs) ps (rs ++ r ∷ more) ≡ rs ++ record r { parts = ps } ∷ more
closing rs r more ps =
    ap (with_parts ps (length rs) (rs ++ r ∷ more)) (get_seam rs r more)
    ∙ set-append_seam rs r more (record r { parts = ps })

-- the state after a node has opened, its parts have followed and it has closed
abbrev row_of : Form → Place → Core → Seen → Row
row_of f at ps s = record { form = f; place = at; within = s.now.inside; parts = starts (suc (length s.rows)) ps }

abbrev node_behind : Form → Place → Core → Seen → Seen
node_behind f at ps s =
    seen_as (s.rows ++ row_of f at ps s ∷ layout (inside f (length s.rows) s.now.inside) (suc (length s.rows)) ps) s.now.row s.now.inside (s.now.parts ++ node_id (length s.rows) ∷ []) s.around

length_push : (rs : List Row) (r : Row) → length (rs ++ r ∷ []) ≡ suc (length rs)
length_push rs r = omega (arith, length-append rs (r ∷ []))

closes : (f : Form) (at : Place) (ps : Core) (s : Seen) → step Close (behind ps (opened f at (length s.rows) s)) ≡ node_behind f at ps s
closes f at ps s =
    let r : Row = record { form = f; place = at; within = s.now.inside; parts = [] } in
    let w = inside f (length s.rows) s.now.inside in
    let around = record { row = s.now.row; inside = s.now.inside; parts = s.now.parts ++ node_id (length s.rows) ∷ [] } ∷ s.around in
    let at_length : ℕ → Seen = λ m. seen_as (closed (length s.rows) (starts m ps) ((s.rows ++ r ∷ []) ++ layout w m ps)) s.now.row s.now.inside (s.now.parts ++ node_id (length s.rows) ∷ []) s.around in
    let with_rows : List Row → Seen = λ rs. seen_as rs s.now.row s.now.inside (s.now.parts ++ node_id (length s.rows) ∷ []) s.around in
    let m = suc (length s.rows) in
    ap at_length (length_push s.rows r)
    ∙ ap (λ (rs : List Row). with_rows (closed (length s.rows) (starts m ps) rs)) (append_assoc s.rows (r ∷ []) (layout w m ps))
    ∙ ap with_rows (closing s.rows r (layout w m ps) (starts m ps))

next_row : (f : Form) (at : Place) (ps : Core) (s : Seen) → length (node_behind f at ps s).rows ≡ suc (length s.rows + size ps)
next_row f at ps s =
    let w = inside f (length s.rows) s.now.inside in
    let m = suc (length s.rows) in
    omega (arith, length-append s.rows (row_of f at ps s ∷ layout w m ps), length-layout w m ps)

joins : (f : Form) (at : Place) (ps rest : Core) (s : Seen) → behind rest (node_behind f at ps s) ≡ behind (node f at ps rest) s
joins f at ps rest s =
    let w = inside f (length s.rows) s.now.inside in
    let m = suc (length s.rows) in
    let r = row_of f at ps s in
    let from : ℕ → Seen = λ k. seen_as ((s.rows ++ r ∷ layout w m ps) ++ layout s.now.inside k rest) s.now.row s.now.inside ((s.now.parts ++ node_id (length s.rows) ∷ []) ++ starts k rest) s.around in
    let k = suc (length s.rows + size ps) in
    ap from (next_row f at ps s)
    ∙ ap (λ (rs : List Row). seen_as rs s.now.row s.now.inside ((s.now.parts ++ node_id (length s.rows) ∷ []) ++ starts k rest) s.around) (append_assoc s.rows (r ∷ layout w m ps) (layout s.now.inside k rest))
    ∙ ap (λ (ns : List NodeId). seen_as (s.rows ++ r ∷ (layout w m ps ++ layout s.now.inside k rest)) s.now.row s.now.inside ns s.around) (append_assoc s.now.parts (node_id (length s.rows) ∷ []) (starts k rest))

pub walked : (c : Core) (es : List Event) (s : Seen) → steps (stream c ++ es) s ≡ steps es (behind c s)
walked none es s =
    ap (λ (rs : List Row). steps es (seen_as rs s.now.row s.now.inside s.now.parts s.around)) (sym (append-nil s.rows))
    ∙ ap (λ (ns : List NodeId). steps es (seen_as (s.rows ++ []) s.now.row s.now.inside ns s.around)) (sym (append-nil s.now.parts))
walked (node f at ps rest) es s =
    ap (λ (more : List Event). steps more (opened f at (length s.rows) s)) (append_assoc (stream ps) (Close ∷ stream rest) es)
    ∙ walked ps (Close ∷ (stream rest ++ es)) (opened f at (length s.rows) s)
    ∙ ap (steps (stream rest ++ es)) (closes f at ps s)
    ∙ walked rest es (node_behind f at ps s)
    ∙ ap (steps es) (joins f at ps rest s)

pub walked_whole : (c : Core) → (steps (stream c) start).rows ≡ rows c
walked_whole c =
    ap (λ (es : List Event). (steps es start).rows) (sym (append-nil (stream c)))
    ∙ ap (λ (s : Seen). s.rows) (walked c [] start)
