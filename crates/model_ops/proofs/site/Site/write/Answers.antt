use Rattle.std.proofs.Common.{◌∙◌, ap, sym, None}
use Rattle.std.proofs.lemmas.Int.{to_z-of_z}
use mir.Syntax.{w32}
use mir.Val.{of_z, to_z}
use Rattle.model_ops.specs.Operations.{write}
use Rattle.model_ops.specs.Sites.{done}
use Rattle.model_ops.specs.WorkingCopies.{WorkingCopy, own_id, copy_after}
use Rattle.model_ops.proofs.Drafts.{no_draft, own_with, write_made, copy_made}
use Rattle.model_ops.proofs.site.Site.write.Goals as goal

pub invariant_of-self-in-None-port : goal.invariant_of-self-in-None-port
invariant_of-self-in-None-port c =
    let s = c.self.inside in
    let v = to_z w32 (of_z w32 c.args.value) in
    let made = write_made s.found.now s.own s.draft c.args.self.now c.self.invariant c.in-None.is c.self.view_is c.args.var v c.in_ok-own-in-None-port.own c.in_ok-own-in-None-port.ensures.value in
    own_with s.found.now s.own c.in_ok-own-in-None-port.own c.args.var _ c.self.invariant made.0 c.in_ok-own-in-None-port.ensures.in_range

pub returns-in_ok-own-in-None-port-clause-value : goal.returns-in_ok-own-in-None-port-clause-value
returns-in_ok-own-in-None-port-clause-value c =
    let s = c.self.inside in
    let w = c.args.self.now in
    let v = to_z w32 (of_z w32 c.args.value) in
    let made = write_made s.found.now s.own s.draft w c.self.invariant c.in-None.is c.self.view_is c.args.var v c.in_ok-own-in-None-port.own c.in_ok-own-in-None-port.ensures.value in
    ap done (sym made.1)
    ∙ ap (λ z. done (write w.reached (own_id w) None c.args.var z)) (to_z-of_z w32 c.args.value c.ranges.value)
    ∙ ap (λ q. done (write w.reached (own_id w) q c.args.var c.args.value)) (sym c.in-None-port.is)

pub returns-in_ok-own-in-None-port-clause-after : goal.returns-in_ok-own-in-None-port-clause-after
returns-in_ok-own-in-None-port-clause-after c =
    let s = c.self.inside in
    let w = c.args.self.now in
    let v = to_z w32 (of_z w32 c.args.value) in
    let made = write_made s.found.now s.own s.draft w c.self.invariant c.in-None.is c.self.view_is c.args.var v c.in_ok-own-in-None-port.own c.in_ok-own-in-None-port.ensures.value in
    copy_made s.found.now s.own s.draft w c.self.invariant c.in-None.is c.self.view_is c.args.var v c.in_ok-own-in-None-port.own made.1
    ∙ ap (λ z. copy_after w (write w.reached (own_id w) None c.args.var z)) (to_z-of_z w32 c.args.value c.ranges.value)
    ∙ ap (λ q. copy_after w (write w.reached (own_id w) q c.args.var c.args.value)) (sym c.in-None-port.is)

pub returns-in-Some-port-clause-value : goal.returns-in-Some-port-clause-value
returns-in-Some-port-clause-value c =
    let s = c.self.inside in
    let same = c.draft_of-draft.ensures ∙ no_draft s.found.now s.own s.draft c.args.self.now c.self.invariant c.in-None.is c.self.view_is in
    c.write-outcome.ensures.value
    ∙ ap (λ (w : WorkingCopy). done (write w.reached (own_id w) c.args.port c.args.var (to_z w32 (of_z w32 c.args.value)))) same
    ∙ ap (λ z. done (write c.args.self.now.reached (own_id c.args.self.now) c.args.port c.args.var z)) (to_z-of_z w32 c.args.value c.ranges.value)

pub returns-in-Some-port-clause-after : goal.returns-in-Some-port-clause-after
returns-in-Some-port-clause-after c =
    let s = c.self.inside in
    let same = c.draft_of-draft.ensures ∙ no_draft s.found.now s.own s.draft c.args.self.now c.self.invariant c.in-None.is c.self.view_is in
    c.write-outcome.ensures.after
    ∙ ap (λ (w : WorkingCopy). copy_after w (write w.reached (own_id w) c.args.port c.args.var (to_z w32 (of_z w32 c.args.value)))) same
    ∙ ap (λ z. copy_after c.args.self.now (write c.args.self.now.reached (own_id c.args.self.now) c.args.port c.args.var z)) (to_z-of_z w32 c.args.value c.ranges.value)
