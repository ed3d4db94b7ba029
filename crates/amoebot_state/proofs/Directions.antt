-- Local and global directions, and the ports that lead to a neighbour.
use Rattle.std.proofs.Common.{◌≡◌, ◌<◌, ℕ, Bool, true, false, not, ◌&&◌, ◌||◌, ap, sym, ◌∙◌, refl, subst, inl, inr, arith, ltb, nat_eq, [], ◌∷◌, ◌++◌, map, filter}
use Rattle.std.specs.Prelude.{if◌then◌else◌}
use Rattle.std.proofs.lemmas.Bool.{cases_Bool, lt-ltb, ltb-true, eqb-true, both_ways, or_left, or_right}
use Rattle.tri_lattice.specs.declared.node.Node.{Node}
use Rattle.tri_lattice.specs.Lattice.{step, node_eq, Adjacent, is_adjacent}
use Rattle.tri_lattice.proofs.Nodes.{node_eq-true, each_direction}
use Rattle.tri_lattice.proofs.EachBelow.{each_two}
use Rattle.tri_lattice.proofs.Steps.{is_adjacent-true, Adjacent-is_adjacent}
use Rattle.amoebot_state.specs.declared.bot.Bot.{Bot}
use Rattle.amoebot_state.specs.declared.bot.Chir.{Chir}
use Rattle.amoebot_state.specs.declared.bot.Chir.TheVariants as chir
use Rattle.amoebot_state.specs.declared.bot.End.{End}
use Rattle.amoebot_state.specs.declared.bot.End.TheVariants.{Head, Tail}
use Rattle.amoebot_state.specs.Laws.{GlobalAndLocalAreInverse, PortLeadsBeside}
use Rattle.amoebot_state.specs.Ports.{global_by, local_by, global, local, end_node, is_head, is_own, is_contracted, is_port, port, behind, all_ports, ports, own_nodes, is_beside}
use Rattle.amoebot_state.proofs.Members.{Has, here, later, Has-filter, Has-map, Has-distinct, Has-append_left, Has-append_right}
use Rattle.amoebot_state.proofs.Owns.{own_cases}
use Rattle.amoebot_state.specs.Zones.{zone_nodes}
use Rattle.tri_lattice.specs.Extent.{Extent, is_in}

-- the local direction of a global one leads back to it, and the other way round
turned_local : (h : Chir) (r d : ℕ) → r < 6 → d < 6 → global_by h r (local_by h r d) ≡ d
turned_local chir.Plus r d lr ld = eqb-true _ _ (each_two (λ r d. nat_eq (global_by chir.Plus r (local_by chir.Plus r d)) d) refl r d lr ld)
turned_local chir.Minus r d lr ld = eqb-true _ _ (each_two (λ r d. nat_eq (global_by chir.Minus r (local_by chir.Minus r d)) d) refl r d lr ld)

local_turned : (h : Chir) (r i : ℕ) → r < 6 → i < 6 → local_by h r (global_by h r i) ≡ i
local_turned chir.Plus r i lr li = eqb-true _ _ (each_two (λ r i. nat_eq (local_by chir.Plus r (global_by chir.Plus r i)) i) refl r i lr li)
local_turned chir.Minus r i lr li = eqb-true _ _ (each_two (λ r i. nat_eq (local_by chir.Minus r (global_by chir.Minus r i)) i) refl r i lr li)

local_below : (h : Chir) (r d : ℕ) → r < 6 → d < 6 → local_by h r d < 6
local_below chir.Plus r d lr ld = ltb-true _ _ (each_two (λ r d. ltb (local_by chir.Plus r d) 6) refl r d lr ld)
local_below chir.Minus r d lr ld = ltb-true _ _ (each_two (λ r d. ltb (local_by chir.Minus r d) 6) refl r d lr ld)

turned_below : (h : Chir) (r i : ℕ) → global_by h r i < 6
turned_below chir.Plus r i = omega arith
turned_below chir.Minus r i = omega arith

pub global_below : (b : Bot) (i : ℕ) → global b i < 6
global_below b i = turned_below b.chir b.rot i

pub global_local : (b : Bot) (d : ℕ) → b.rot < 6 → d < 6 → (local b d < 6) × (global b (local b d) ≡ d)
global_local b d lr ld = (local_below b.chir b.rot d lr ld, turned_local b.chir b.rot d lr ld)

pub local_global : (b : Bot) (i : ℕ) → b.rot < 6 → i < 6 → local b (global b i) ≡ i
local_global b i lr li = local_turned b.chir b.rot i lr li

pub global_and_local_are_inverse : GlobalAndLocalAreInverse
global_and_local_are_inverse b d rot below =
    let back = global_local b d rot below in
    (global_below b d, back.0, local_global b d rot below, back.1)

-- each pair of an end and a local direction is listed
pub listed : (e : End) (i : ℕ) → i < 6 → Has (port e i) all_ports
listed Head = each_direction (λ i. Has (port Head i) all_ports) here (later here) (later (later here)) (later (later (later here))) (later (later (later (later here)))) (later (later (later (later (later here)))))
listed Tail = each_direction (λ i. Has (port Tail i) all_ports) (later (later (later (later (later (later here)))))) (later (later (later (later (later (later (later here))))))) (later (later (later (later (later (later (later (later here)))))))) (later (later (later (later (later (later (later (later (later here))))))))) (later (later (later (later (later (later (later (later (later (later here)))))))))) (later (later (later (later (later (later (later (later (later (later (later here)))))))))))

-- a pair that leads to a node which is not the amoebot's own is a port, and the head's of a contracted one is in any case
leads_to_port : (b : Bot) (e : End) (i : ℕ) → i < 6 → is_own b (behind b (port e i)) ≡ false → (is_contracted b ≡ true → is_head e ≡ true) → Has (port e i) (ports b)
leads_to_port b e i lt apart of_head = Has-filter (is_port b) all_ports (listed e i lt) (ap (λ t. t && (if is_contracted b then is_head e else not (is_own b (behind b (port e i))))) (lt-ltb i 6 lt) ∙ inner)
  where
    inner : (if is_contracted b then is_head e else not (is_own b (behind b (port e i)))) ≡ true
    inner = elim (cases_Bool (is_contracted b)) [ inl t ↦ rw t (of_head t) | inr f ↦ rw f (ap not apart) ]

-- a neighbour of an end that is not the amoebot's own lies behind a port
pub behind_a_port : (b : Bot) (e : End) (v : Node) → b.rot < 6 → Adjacent (end_node b e) v → is_own b v ≡ false → (is_contracted b ≡ true → is_head e ≡ true) → Has v (map (behind b) (ports b))
behind_a_port b e v rot next apart of_head =
    let d = next.0 in
    let way = global_local b d rot next.1 in
    let p = port e (local b d) in
    let to : behind b p ≡ v = ap (step (end_node b e)) way.1 ∙ sym next.2 in
    subst (λ u. Has u (map (behind b) (ports b))) to (Has-map (behind b) (leads_to_port b e (local b d) way.0 (ap (is_own b) to ∙ apart) of_head))

own_listed : (b : Bot) (v : Node) → is_own b v ≡ true → Has v (own_nodes b)
own_listed b v own = elim (cases_Bool (is_contracted b)) [
  | inl t ↦ rw t (elim (own_cases b v own) [
    | inl h ↦ subst (λ u. Has u (b.head ∷ [])) h here
    | inr h ↦ subst (λ u. Has u (b.head ∷ [])) (node_eq-true b.head b.tail t ∙ h) here
  ])
  | inr f ↦ rw f (elim (own_cases b v own) [
    | inl h ↦ subst (λ u. Has u (b.head ∷ b.tail ∷ [])) h here
    | inr h ↦ subst (λ u. Has u (b.head ∷ b.tail ∷ [])) h (later here)
  ])
]

-- a node that is the amoebot's own or adjacent to one of them is one of the zone's, if it lies in the area
pub beside_in_zone : (a : Extent) (b : Bot) (v : Node) → b.rot < 6 → is_beside b v ≡ true → is_in a v ≡ true → Has v (zone_nodes a b)
beside_in_zone a b v rot beside inside = Has-distinct node_eq node_eq-true (own_nodes b ++ filter (is_in a) (map (behind b) (ports b))) (elim (cases_Bool (is_own b v)) [
  | inl own ↦ Has-append_left _ (own_listed b v own)
  | inr apart ↦ Has-append_right (own_nodes b) (Has-filter (is_in a) (map (behind b) (ports b)) (elim (cases_Bool (is_adjacent b.head v)) [
    | inl t ↦ behind_a_port b Head v rot (is_adjacent-true b.head v t) apart (λ _. refl)
    | inr f ↦
        let at_tail : is_adjacent b.tail v ≡ true = last_of apart f beside in
        elim (cases_Bool (is_contracted b)) [
          | inl t ↦ absurd (both_ways _ f (ap (λ u. is_adjacent u v) (node_eq-true b.head b.tail t) ∙ at_tail))
          | inr g ↦ behind_a_port b Tail v rot (is_adjacent-true b.tail v at_tail) apart (λ t. absurd (both_ways _ g t))
        ]
  ]) inside)
])
  where
    last_of : {x y z : Bool} → x ≡ false → y ≡ false → (x || y || z) ≡ true → z ≡ true
    last_of {x} {y} {z} e f t = sym (ap (λ w. w || z) (ap (λ w. w || y) e ∙ f)) ∙ t

-- one step from an end leads beside the amoebot
pub port_leads_beside : PortLeadsBeside
port_leads_beside b p = by_end p.end
  where
    next : (e : End) → is_adjacent (end_node b e) (step (end_node b e) (global b p.dir)) ≡ true
    next e = Adjacent-is_adjacent (end_node b e) (step (end_node b e) (global b p.dir)) (global b p.dir, global_below b p.dir, refl)

    by_end : (e : End) → is_beside b (step (end_node b e) (global b p.dir)) ≡ true
    by_end Head = or_left _ _ (or_right _ _ (next Head))
    by_end Tail = or_right _ _ (next Tail)
