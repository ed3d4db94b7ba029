-- What holds of amoebots that came one by one: they make a valid, connected shape not far from the square.
use Rattle.std.proofs.Common.{◌≡◌, ◌⊎◌, ◌<◌, ◌≤◌, ◌-◌, ℕ, zero, suc, List, [], ◌∷◌, ◌++◌, length, false, ap, sym, ◌∙◌, refl, subst, inl, inr, arith, None}
use Rattle.std.specs.Prelude.{IsTrue}
use Rattle.std.proofs.lemmas.Bool.{cases_Bool, cases_eq, or_left, false≢true}
use Rattle.std.proofs.lemmas.Int.{ints}
use Rattle.std.proofs.lemmas.List.{length_push, nil_from_length}
use Rattle.tri_lattice.specs.declared.node.Node.{Node}
use Rattle.tri_lattice.specs.Lattice.{Adjacent, node_eq, is_adjacent}
use Rattle.tri_lattice.specs.Extent.{is_in, IsArea}
use Rattle.tri_lattice.specs.Sets.{IsConnected}
use Rattle.tri_lattice.proofs.Boxes.{within_in}
use Rattle.tri_lattice.proofs.Nodes.{node_eq_same}
use Rattle.tri_lattice.proofs.Paths.{putting_keeps, few_are_connected, same_keeps}
use Rattle.amoebot_state.specs.declared.bot.Bot.{Bot}
use Rattle.amoebot_state.specs.Configs.{with_these, IsValid, IsBot, is_wall, occupant, has_values}
use Rattle.amoebot_state.specs.Occupied.{occupied}
use Rattle.amoebot_state.proofs.Added.{MayCome, valid_with, these_push}
use Rattle.amoebot_state.proofs.Faults.{frame_valid}
use Rattle.amoebot_state.proofs.Options.{none_if}
use Rattle.amoebot_state.proofs.Walls.{nodes_are_their_numbers}
use Rattle.rand_pcg.specs.Lcg.{Lcg}
use Rattle.run_sample.specs.Sample.{AreSample, Placed, none, more, IsNextBot, in_square, beside, is_taken, bot_on, sample_memory, square_node, node_of, draw, drawn, sample_area, sample_maxes, sample_frame, IsInside}
use Rattle.run_sample.proofs.Squares.{IsWithin, wider, within_inside, step_within, square_within, square_once, square_beside}
use Rattle.run_sample.proofs.Drawn.{draw_below}
use Rattle.run_sample.proofs.Taken.{taken_cases, taken_old, taken_new, puts_in, node_taken, beside_taken, occupied_push}

pub record IsLaid (bots : List Bot) : Type 0 where
  pub within : (v : Node) → IsTrue (is_taken bots v) → IsWithin (length bots - 100) v
  pub connected : IsConnected (is_taken bots)
  pub rows : (v : Node) → IsTrue (is_taken bots v) → length bots ≤ 100 → (i : ℕ) × (i < length bots) × (v ≡ square_node i)
  pub filled : (i : ℕ) → i < length bots → i < 100 → IsTrue (is_taken bots (square_node i))
  pub same : (v : Node) → occupied (with_these sample_frame bots) v ≡ is_taken bots v
  pub valid : IsValid (with_these sample_frame bots)

pub is_area : IsArea sample_area
is_area = record {
  x_low = omega (arith, ints);
  x_high = omega (arith, ints);
  y_low = omega (arith, ints);
  y_high = omega (arith, ints);
  w_low = omega arith;
  w_high = omega arith;
  h_low = omega arith;
  h_high = omega arith;
}

-- what lies inside lies in the area
inside_in : (v : Node) → IsInside v → IsTrue (is_in sample_area v)
inside_in v w =
    let a = w.x_low in
    let b = w.x_high in
    let e = w.y_low in
    let f = w.y_high in
    within_in sample_area v (record { x_low = omega (arith, ints); x_high = omega (arith, ints); y_low = omega (arith, ints); y_high = omega (arith, ints) })

memory_fits : (id : ℕ) → IsTrue (has_values sample_maxes (sample_memory id))
memory_fits zero = refl
memory_fits (suc n) = refl

memory_eight : (id : ℕ) → length (sample_memory id) ≡ 8
memory_eight zero = refl
memory_eight (suc n) = refl

none_laid : IsLaid []
none_laid = record {
  within = λ v t. absurd (false≢true t);
  connected = few_are_connected (is_taken []) (λ a b t u. absurd (false≢true t));
  rows = λ v t le. absurd (false≢true t);
  filled = λ i lt low. absurd (omega arith);
  same = λ v. refl;
  valid = frame_valid sample_frame is_area refl;
}

-- one amoebot more stays beside the others, or is the first
abbrev Meets : List Bot → Node → Type 0
Meets bots v = ((a : Node) × IsTrue (is_taken bots a) × Adjacent a v) ⊎ (bots ≡ [])

alone : (b : Bot) (bots : List Bot) → bots ≡ [] → IsConnected (is_taken (bots ++ b ∷ []))
alone b bots e = few_are_connected (is_taken (bots ++ b ∷ [])) (λ u v tu tv. sym (here u tu) ∙ here v tv) where
  here : (u : Node) → IsTrue (is_taken (bots ++ b ∷ []) u) → b.head ≡ u
  here u t = elim (taken_cases bots b u t) [ inl old ↦ absurd (false≢true (sym (ap (λ bs. is_taken bs u) e) ∙ old)) | inr h ↦ h ]

-- one amoebot more, contracted, on an empty node
laid_with : (bots : List Bot) (v : Node) (rot : ℕ) → length bots < 150 → rot < 6 → IsLaid bots → is_taken bots v ≡ false → Meets bots v → IsWithin (suc (length bots) - 100) v
    → (length bots < 100 → v ≡ square_node (length bots)) → IsLaid (bots ++ bot_on (length bots) v rot ∷ [])
laid_with bots v rot few turns laid empty meets near row =
    let n = length bots in
    let b = bot_on n v rot in
    let long : length (bots ++ b ∷ []) ≡ suc n = omega (arith, length_push bots b) in
    let inside : IsInside v = within_inside (suc n - 100) v (omega arith) near in
    let free : occupant (with_these sample_frame bots) v ≡ None = none_if _ (laid.same v ∙ empty) in
    let no_wall : is_wall sample_frame v ≡ false = nodes_are_their_numbers sample_area [] v (inside_in v inside) in
    let fits : IsBot sample_frame b = record {
      head = inside_in v inside;
      tail = inside_in v inside;
      head_open = no_wall;
      tail_open = no_wall;
      close = or_left (node_eq v v) (is_adjacent v v) (node_eq_same v);
      rot = turns;
      values = memory_fits n;
      eight = memory_eight n;
    } in
    let may : MayCome (with_these sample_frame bots) b = record { fits = fits; head_free = free; tail_free = free } in
    record {
      within = λ u t. subst (λ k. IsWithin (k - 100) u) (sym long) (elim (taken_cases bots b u t) [
        | inl old ↦ wider (n - 100) (suc n - 100) u (omega arith) (laid.within u old)
        | inr h ↦ subst (λ (w : Node). IsWithin (suc n - 100) w) h near
      ]);
      connected = elim meets [
        | inl by ↦ putting_keeps (is_taken bots) (is_taken (bots ++ b ∷ [])) v by.0 laid.connected by.1 by.2 (puts_in bots b)
        | inr e ↦ alone b bots e
      ];
      rows = λ u t le. elim (taken_cases bots b u t) [
        | inl old ↦ (let at = laid.rows u old (omega arith) in (at.0, omega arith, at.2))
        | inr h ↦ (n, omega arith, sym h ∙ row (omega arith))
      ];
      filled = λ i lt low. elim (cases_eq i n) [
        | inl e ↦ subst (λ (w : Node). IsTrue (is_taken (bots ++ b ∷ []) w)) (row (omega arith) ∙ ap square_node (sym e)) (taken_new bots b)
        | inr ne ↦ taken_old bots b (square_node i) (laid.filled i (omega arith) low)
      ];
      same = λ u. occupied_push sample_frame bots b u refl (laid.same u);
      valid = subst IsValid (sym (these_push sample_frame bots b)) (valid_with (with_these sample_frame bots) b laid.valid may);
    }

-- the next node of the square is empty, and beside an earlier one
square_empty : (bots : List Bot) → IsLaid bots → length bots < 100 → is_taken bots (square_node (length bots)) ≡ false
square_empty bots laid lt = elim (cases_Bool (is_taken bots (square_node (length bots)))) [
  | inl t ↦ (let at = laid.rows (square_node (length bots)) t (omega arith) in let same = square_once (length bots) at.0 at.2 in absurd (omega arith))
  | inr f ↦ f
]

square_meets : (bots : List Bot) → IsLaid bots → length bots < 100 → Meets bots (square_node (length bots))
square_meets bots laid lt = elim (cases_eq (length bots) 0) [
  | inl e ↦ inr (nil_from_length bots e)
  | inr ne ↦ inl (let at = square_beside (length bots) lt ne in (square_node at.0, laid.filled at.0 at.1 (omega arith), at.2))
]

next_laid : (bots : List Bot) (g : Lcg) (b : Bot) (h : Lcg) → length bots < 150 → IsLaid bots → IsNextBot bots g b h → IsLaid (bots ++ b ∷ [])
next_laid bots g b h few laid (in_square lt) =
    laid_with bots (square_node (length bots)) (draw g 6) few (draw_below g 6 (omega arith)) laid (square_empty bots laid lt) (square_meets bots laid lt)
    (wider 0 (suc (length bots) - 100) (square_node (length bots)) (omega arith) (square_within (length bots) lt)) (λ _. refl)
next_laid bots g b h few laid (beside {v = v} ge first) =
    let n = length bots in
    let i = draw g n in
    let d = draw (drawn g) 6 in
    let by = beside_taken bots (node_of bots i) d v (draw_below (drawn g) 6 (omega arith)) (node_taken bots i (draw_below g n (omega arith))) first in
    let to = by.2 in
    let size : suc (n - 100) ≡ suc n - 100 = omega arith in
    laid_with bots v (draw (drawn (drawn g)) 6) few (draw_below (drawn (drawn g)) 6 (omega arith)) laid first.empty (inl by)
    (subst (λ k. IsWithin k v) size (subst (λ (w : Node). IsWithin (suc (n - 100)) w) (sym to.2) (step_within (n - 100) by.0 to.0 to.1 (laid.within by.0 by.1))))
    (λ lt. absurd (omega arith))

pub laid : (seed : ℕ) (bots : List Bot) (g : Lcg) → length bots ≤ 150 → Placed seed bots g → IsLaid bots
laid seed bots g few none = none_laid
laid seed bots g few (more {bots = old} {b = b} {g = h} placed next) =
    let long = length_push old b in
    next_laid old h b g (omega arith) (laid seed old h (omega arith) placed) next

-- the amoebots that came are inside
pub inside : (bots : List Bot) → length bots ≤ 150 → IsLaid bots → (v : Node) → IsTrue (is_taken bots v) → IsInside v
inside bots few l v t = within_inside (length bots - 100) v (omega arith) (l.within v t)

-- and their shape is connected
pub connected : (bots : List Bot) → IsLaid bots → IsConnected (occupied (with_these sample_frame bots))
connected bots l = same_keeps (is_taken bots) (occupied (with_these sample_frame bots)) l.same l.connected

-- so it is of a seed's sample
pub sample_laid : (seed : ℕ) (bots : List Bot) → AreSample seed bots → IsLaid bots
sample_laid seed bots s = let many = s.many in laid seed bots s.left (omega arith) s.placed
