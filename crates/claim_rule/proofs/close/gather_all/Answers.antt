use Rattle.std.proofs.Common.{◌≡◌, ◌++◌, ◌∷◌, [], ap, sym, ◌∙◌, Some, None}
use Rattle.claim_core.specs.declared.state.Caller.{Caller}
use Rattle.claim_rule.specs.Tokens.{Token, record_in, doing}
use Rattle.claim_rule.proofs.GatheredRecords.{one_record, none_gathered, last_is, skipped, taken_in}
use Rattle.claim_rule.proofs.close.gather_all.Goals as goal

-- src/close.rt
pub loop-place-init : goal.loop-place-init
loop-place-init g c = (c.requires.field.0, none_gathered c.args.field.now.terms c.args.seats.items c.args.rest.me c.requires.field.1)

pub gather-requires-clause-field : goal.gather-requires-clause-field
gather-requires-clause-field g c = λ κs within.
    let pops : c.loop-place.seats.items ≡ c.pop.new.self.items ++ Some c.in-Some-place.seat ∷ [] = c.in-Some.ensures.items ∙ (λ i. c.pop.new.self.items ++ c.in-Some-place.is i ∷ []) in
    let there = last_is c.args.field.now.terms c.args.seats.items c.loop-place.seats.items c.pop.new.self.items (Some c.in-Some-place.seat) c.loop-place.rest.me c.loop-place.invariant.1 pops in
    (c.loop-place.invariant.0, ap (λ (t : Token g.row.D.Denot). t.table) c.seat.view_is ∙ (c.requires.seats _ c.in-Some-place.seat there).0)

pub gather-requires-clause-other : goal.gather-requires-clause-other
gather-requires-clause-other g c = λ κs within.
    let z = c.args.field.now.terms in
    let pops : c.loop-place.seats.items ≡ c.pop.new.self.items ++ Some c.in-Some-place.seat ∷ [] = c.in-Some.ensures.items ∙ (λ i. c.pop.new.self.items ++ c.in-Some-place.is i ∷ []) in
    let there = last_is z c.args.seats.items c.loop-place.seats.items c.pop.new.self.items (Some c.in-Some-place.seat) c.loop-place.rest.me c.loop-place.invariant.1 pops in
    (record_in c.in-Some-place.seat ∷ [], one_record z c.seat.inside.seat.me c.in-Some-place.seat c.seat.inside.seat.table_id c.seat.view_is c.seat.invariant.alone c.seat.invariant.won c.seat.invariant.note c.seat.invariant.out (c.requires.seats _ c.in-Some-place.seat there).1)

pub loop-place-preserved-in-Some-place : goal.loop-place-preserved-in-Some-place
loop-place-preserved-in-Some-place g c =
    let z = c.args.field.now.terms in
    let pops : c.loop-place.seats.items ≡ c.pop.new.self.items ++ Some c.in-Some-place.seat ∷ [] = c.in-Some.ensures.items ∙ (λ i. c.pop.new.self.items ++ c.in-Some-place.is i ∷ []) in
    let there = last_is z c.args.seats.items c.loop-place.seats.items c.pop.new.self.items (Some c.in-Some-place.seat) c.loop-place.rest.me c.loop-place.invariant.1 pops in
    let its = one_record z c.seat.inside.seat.me c.in-Some-place.seat c.seat.inside.seat.table_id c.seat.view_is c.seat.invariant.alone c.seat.invariant.won c.seat.invariant.note c.seat.invariant.out (c.requires.seats _ c.in-Some-place.seat there).1 in
    let none = ap (λ (t : Token g.row.D.Denot). (record_in t).taken) (sym c.seat.view_is) ∙ c.seat.invariant.taken in
    let rests = ap (λ (t : Token g.row.D.Denot). (doing t).held) (sym c.seat.view_is) ∙ ap (λ (k : Caller). k.held) c.seat.invariant.rests in (
      c.gather.ensures.0 ∙ c.loop-place.invariant.0,
      taken_in z c.args.seats.items c.loop-place.seats.items c.pop.new.self.items c.in-Some-place.seat c.loop-place.rest.me c.seat.inside.seat.me c.gather.new.seat.me c.loop-place.invariant.1 pops none rests its c.gather.ensures.1,
    )

pub loop-place-preserved : goal.loop-place-preserved
loop-place-preserved g c =
    let pops : c.loop-place.seats.items ≡ c.pop.new.self.items ++ None ∷ [] = c.in-Some.ensures.items ∙ (λ i. c.pop.new.self.items ++ c.in_default-place.is i ∷ []) in
    (c.loop-place.invariant.0, skipped c.args.field.now.terms c.args.seats.items c.loop-place.seats.items c.pop.new.self.items c.loop-place.rest.me c.loop-place.invariant.1 pops)
