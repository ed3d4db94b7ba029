use Rattle.std.proofs.Common.{◌≡◌, ◌⊎◌, inl, inr}
use Rattle.std.proofs.lemmas.Option.{slice_get-get_or}
use Rattle.amoebot_state.specs.declared.refusal.WorldRefusal.{WorldRefusal}
use Rattle.amoebot_state.specs.declared.refusal.WorldRefusal.TheVariants.{NoMemory}
use Rattle.amoebot_state.specs.Refusals.{IsFirstFault}
use Rattle.amoebot_state.proofs.Added.{faultless_more, world_more, first_fault_at}
use Rattle.amoebot_state.proofs.Options.{err_told}
use Rattle.std.proofs.lemmas.List.{take_all}
use Rattle.std.proofs.Common.{◌∙◌, ap}
use Rattle.amoebot_state.specs.Configs.{with_these}
use Rattle.amoebot_state.proofs.Stored.{room_left}
use Rattle.amoebot_state.proofs.world.World.framed.Goals as goal

pub loop-bot-preserved : goal.loop-bot-preserved
loop-bot-preserved c =
    let frame = c.args.frame in
    let i = c.loop-bot.bot-index in
    let bots = c.args.bots.now in
    let lt = c.loop-bot-test.true in
    let added = c.in_ok-add.ensures.ok in
    let before = c.loop-bot.invariant in (
      world_more frame bots i _ c.loop-bot.world c.add.new.self lt before.0 added.1,
      faultless_more frame bots i _ c.loop-bot.world (slice_get-get_or bots i _ lt) before.0 before.1 added.0,
    )

pub returns-in_err-add-clause-fault : goal.returns-in_err-add-clause-fault
returns-in_err-add-clause-fault c =
    let frame = c.args.frame in
    let bots = c.args.bots.now in
    let P : WorldRefusal → Type 0 = λ e. (e ≡ NoMemory) ⊎ IsFirstFault frame bots e in
    err_told c.from_residual-in_err-add.result P c.in_err-add.field-0.0 c.from_residual-in_err-add.ensures.1 (elim c.in_err-add.ensures.err [
      | inl none ↦ inl none
      | inr fault ↦ inr (first_fault_at frame bots c.loop-bot.bot-index _ c.loop-bot.world c.in_err-add.field-0.0 c.loop-bot-test.true c.loop-bot.invariant.0 c.loop-bot.invariant.1 fault)
    ])

pub add-requires-clause-few : goal.add-requires-clause-few
add-requires-clause-few c =
    room_left c.args.frame c.loop-bot.world c.args.bots.now c.loop-bot.bot-index c.loop-bot.invariant.0 c.loop-bot-test.true c.requires.few

pub returns-clause-value : goal.returns-clause-value
returns-clause-value c =
    c.loop-bot.invariant.0 ∙ ap (with_these c.args.frame) (take_all c.loop-bot.bot-index c.args.bots.now c.loop-bot-test.false)
