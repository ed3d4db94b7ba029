use Rattle.std.proofs.Common.{◌∙◌, ap, sym, arith, refl}
use Rattle.std.specs.Prelude.{slice_get}
use Rattle.amoebot_state.proofs.WaysFound.{leads_at, cell_below}
use Rattle.amoebot_state.proofs.found.Found.behind.Goals as goal

pub on_place-requires : goal.on_place-requires
on_place-requires c =
    let ways = c.self.inside.ways in
    let told = leads_at _ c.args.self.now c.self.inside.own ways c.args.port c.place.result _ _ c.self.invariant c.self.view_is (omega (arith, c.if-port-gt5.false)) c.place.ensures c.in-To.is in
    let (v, at, _) = told.node c.in-To.node refl in
    omega (arith, c.from.ensures, cell_below c.args.self.now _ _ at)

pub returns-in-NoPort : goal.returns-in-NoPort
returns-in-NoPort c =
    let ways = c.self.inside.ways in
    let told = leads_at _ c.args.self.now c.self.inside.own ways c.args.port c.place.result _ _ c.self.invariant c.self.view_is (omega (arith, c.if-port-gt5.false)) c.place.ensures c.in-NoPort.is in
    sym (told.no_port refl)

pub returns-in-Outside : goal.returns-in-Outside
returns-in-Outside c =
    let ways = c.self.inside.ways in
    let told = leads_at _ c.args.self.now c.self.inside.own ways c.args.port c.place.result _ _ c.self.invariant c.self.view_is (omega (arith, c.if-port-gt5.false)) c.place.ensures c.in-Outside.is in
    sym (told.outside refl)

pub returns-in-To : goal.returns-in-To
returns-in-To c =
    let ways = c.self.inside.ways in
    let told = leads_at _ c.args.self.now c.self.inside.own ways c.args.port c.place.result _ _ c.self.invariant c.self.view_is (omega (arith, c.if-port-gt5.false)) c.place.ensures c.in-To.is in
    let (v, at, is) = told.node c.in-To.node refl in
    c.on_place.ensures _ _ (ap (slice_get c.args.self.now.cells) (omega (arith, c.from.ensures)) ∙ at) ∙ sym is
