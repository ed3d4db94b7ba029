use Rattle.std.proofs.Common.{sym, ap, ◌∙◌, arith, List}
use Rattle.std.proofs.lemmas.Bool.{eqb-true, false≢true, eq-eqb}
use Rattle.amoebot_state.specs.declared.cell.CellName.{CellName}
use Rattle.amoebot_state.specs.declared.way.Way.{Way}
use Rattle.amoebot_state.specs.Ways.{Reading, ways_read}
use Rattle.amoebot_state.proofs.ReadInOrder.{parts, grown, own_read, other_read, node_read}
use Rattle.amoebot_state.proofs.known_zone.KnownZone.push.Goals as goal

abbrev made : List CellName → List Way → Reading
made ns ws = record { names = ns; ways = ws }

pub push_nodes-self-inside-requires-clause-in_range : goal.push_nodes-self-inside-requires-clause-in_range
push_nodes-self-inside-requires-clause-in_range c =
    let (i, cells, n, known, read) = c.requires in
    let is = grown c.args.area.now i c.self.inside.bot c.self.inside.nodes.items c.self.inside.others.items cells n c.args.cell.now (ap (λ (r : Reading). r.names) (c.self.view_is ∙ known)) read in
    (own_read _ _ _ _ _ _ _ _ is c.in-Body.bot c.in-Body.is (eqb-true _ _ (sym c.is_empty.ensures ∙ c.if-is_empty.true))).0

pub push_nodes-self-inside-requires-clause-few : goal.push_nodes-self-inside-requires-clause-few
push_nodes-self-inside-requires-clause-few c =
    let (i, cells, n, known, read) = c.requires in
    let is = grown c.args.area.now i c.self.inside.bot c.self.inside.nodes.items c.self.inside.others.items cells n c.args.cell.now (ap (λ (r : Reading). r.names) (c.self.view_is ∙ known)) read in
    (own_read _ _ _ _ _ _ _ _ is c.in-Body.bot c.in-Body.is (eqb-true _ _ (sym c.is_empty.ensures ∙ c.if-is_empty.true))).1

pub push_other-requires : goal.push_other-requires
push_other-requires c =
    let (i, cells, n, known, read) = c.requires in
    let is = grown c.args.area.now i c.self.inside.bot c.self.inside.nodes.items c.self.inside.others.items cells n c.args.cell.now (ap (λ (r : Reading). r.names) (c.self.view_is ∙ known)) read in
    let few = (node_read _ _ _ _ _ _ _ _ is c.in-Spot.occupant c.in-Spot.is).0 in
    (omega arith, omega (arith, few))

pub returns-then-is_empty : goal.returns-then-is_empty
returns-then-is_empty c = λ i cells n known read.
    let is = grown c.args.area.now i c.self.inside.bot c.self.inside.nodes.items c.self.inside.others.items cells n c.args.cell.now (ap (λ (r : Reading). r.names) (c.self.view_is ∙ known)) read in
    let told = own_read _ _ _ _ _ _ _ _ is c.in-Body.bot c.in-Body.is (eqb-true _ _ (sym c.is_empty.ensures ∙ c.if-is_empty.true)) in
    ap (λ vs. made (parts c.self.inside.bot vs c.self.inside.others.items) c.push_nodes-self-inside.result) c.push_nodes-self-inside.ensures.nodes
    ∙ ap (λ ns. made ns c.push_nodes-self-inside.result) (sym told.2)
    ∙ ap (made _) (c.push_nodes-self-inside.ensures.ways ∙ sym (ap (ways_read c.args.area.now) told.3))

pub returns-else-is_empty : goal.returns-else-is_empty
returns-else-is_empty c = λ i cells n known read.
    let is = grown c.args.area.now i c.self.inside.bot c.self.inside.nodes.items c.self.inside.others.items cells n c.args.cell.now (ap (λ (r : Reading). r.names) (c.self.view_is ∙ known)) read in
    let told = other_read _ _ _ _ _ _ _ _ is c.in-Body.bot c.in-Body.is (λ e. false≢true (sym c.if-is_empty.false ∙ c.is_empty.ensures ∙ eq-eqb _ _ e)) in
    sym c.self.view_is
    ∙ ap (λ ns. made ns c.self.inside.ways) (sym told.0)
    ∙ ap (made _) (ap (λ (r : Reading). r.ways) (c.self.view_is ∙ known) ∙ sym (ap (ways_read c.args.area.now) told.1))

pub returns-in-Spot : goal.returns-in-Spot
returns-in-Spot c = λ i cells n known read.
    let is = grown c.args.area.now i c.self.inside.bot c.self.inside.nodes.items c.self.inside.others.items cells n c.args.cell.now (ap (λ (r : Reading). r.names) (c.self.view_is ∙ known)) read in
    let told = node_read _ _ _ _ _ _ _ _ is c.in-Spot.occupant c.in-Spot.is in
    ap (λ js. made (parts c.self.inside.bot c.self.inside.nodes.items js) c.self.inside.ways) c.push_other.ensures.value
    ∙ ap (λ ns. made ns c.self.inside.ways) (sym told.1)
    ∙ ap (made _) (ap (λ (r : Reading). r.ways) (c.self.view_is ∙ known) ∙ sym (ap (ways_read c.args.area.now) told.2))
