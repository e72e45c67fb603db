use Rattle.std.proofs.Common.{◌∙◌, ap, sym, subst, Some}
use Rattle.cr_core.specs.Shape as shape
use Rattle.cr_stack.specs.declared.around.Now.TheVariants as now
use Rattle.cr_stack.specs.Layers.{Layers, ready, choice}
use Rattle.cr_stack.specs.Neat.{HasAll, HasChosen}
use Rattle.cr_stack.specs.Shown.{ShowsValue}
use Rattle.cr_stack.specs.Steps.{innermost}
use Rattle.cr_stack.proofs.Stacks.{shows_value, shows_node, value_stands, value_whole, reduced_stands, reduced_neat}
use Rattle.cr_stack.proofs.stack.Stack.redex.Goals as goal

pub returns-in-Value-clause-shown : goal.returns-in-Value-clause-shown
returns-in-Value-clause-shown c =
    shows_value c.args.self.now c.in-Value.value c.shown.result (sym (ap (λ (s : Layers). s.focus) c.self.view_is) ∙ c.in-Value.is)
    (subst (λ ks. ShowsValue (innermost ks) c.in-Value.value c.shown.result) (c.as_slice.ensures.value ∙ ap (λ (s : Layers). s.around) c.self.view_is) c.shown.ensures)

pub returns-in-Value-clause-place : goal.returns-in-Value-clause-place
returns-in-Value-clause-place c =
    value_stands c.args.self.now c.in-Value.value c.shown.result (sym (ap (λ (s : Layers). s.focus) c.self.view_is) ∙ c.in-Value.is)
    (subst (λ ks. ShowsValue (innermost ks) c.in-Value.value c.shown.result) (c.as_slice.ensures.value ∙ ap (λ (s : Layers). s.around) c.self.view_is) c.shown.ensures)

pub returns-in-Value-clause-whole : goal.returns-in-Value-clause-whole
returns-in-Value-clause-whole c = λ rows h. value_whole rows (innermost c.as_slice.result.now) c.in-Value.value c.shown.result c.shown.ensures

pub returns-in-Ready-clause-shown : goal.returns-in-Ready-clause-shown
returns-in-Ready-clause-shown c = λ P h.
    shows_node c.args.self.now (now.Ready c.in-Ready.node c.in-Ready.values) (sym (ap (λ (s : Layers). s.focus) c.self.view_is) ∙ c.in-Ready.is) tt P h
    ∙ ap (λ vs. Some (ready P c.in-Ready.node vs)) (sym c.as_slice-in-Ready.ensures)

pub returns-in-Ready-clause-place : goal.returns-in-Ready-clause-place
returns-in-Ready-clause-place c =
    reduced_stands c.args.self.now (now.Ready c.in-Ready.node c.in-Ready.values) (sym (ap (λ (s : Layers). s.focus) c.self.view_is) ∙ c.in-Ready.is) tt

pub returns-in-Ready-clause-whole : goal.returns-in-Ready-clause-whole
returns-in-Ready-clause-whole c = λ rows h.
    subst (λ vs. HasAll rows c.in-Ready.node vs shape.Term) (sym c.as_slice-in-Ready.ensures)
    (reduced_neat c.args.self.now (now.Ready c.in-Ready.node c.in-Ready.values) (sym (ap (λ (s : Layers). s.focus) c.self.view_is) ∙ c.in-Ready.is) rows h)

pub returns-in-Choice-clause-shown : goal.returns-in-Choice-clause-shown
returns-in-Choice-clause-shown c = λ P h.
    shows_node c.args.self.now (now.Choice c.in-Choice.node c.in-Choice.clauses) (sym (ap (λ (s : Layers). s.focus) c.self.view_is) ∙ c.in-Choice.is) tt P h
    ∙ ap (λ vss. Some (choice P c.in-Choice.node vss)) (sym c.as_slice-in-Choice.ensures)

pub returns-in-Choice-clause-place : goal.returns-in-Choice-clause-place
returns-in-Choice-clause-place c =
    reduced_stands c.args.self.now (now.Choice c.in-Choice.node c.in-Choice.clauses) (sym (ap (λ (s : Layers). s.focus) c.self.view_is) ∙ c.in-Choice.is) tt

pub returns-in-Choice-clause-whole : goal.returns-in-Choice-clause-whole
returns-in-Choice-clause-whole c = λ rows h.
    subst (HasChosen rows c.in-Choice.node) (sym c.as_slice-in-Choice.ensures)
    (reduced_neat c.args.self.now (now.Choice c.in-Choice.node c.in-Choice.clauses) (sym (ap (λ (s : Layers). s.focus) c.self.view_is) ∙ c.in-Choice.is) rows h)

pub returns-in-Sent-clause-shown : goal.returns-in-Sent-clause-shown
returns-in-Sent-clause-shown c = λ P h.
    shows_node c.args.self.now (now.Sent c.in-Sent.channel c.in-Sent.item) (sym (ap (λ (s : Layers). s.focus) c.self.view_is) ∙ c.in-Sent.is) tt P h

pub returns-in-Sent-clause-place : goal.returns-in-Sent-clause-place
returns-in-Sent-clause-place c =
    reduced_stands c.args.self.now (now.Sent c.in-Sent.channel c.in-Sent.item) (sym (ap (λ (s : Layers). s.focus) c.self.view_is) ∙ c.in-Sent.is) tt
