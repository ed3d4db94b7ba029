-- The states of an activation: what each keeps after a step.
use Rattle.std.proofs.Common.{◌≡◌, ◌≢◌, ℕ, ◌+◌, ◌*◌, ◌<◌, ◌≤◌, List, [], ◌∷◌, ◌++◌, map, reverse, length, Some, None, inl, inr, ap, sym, refl, subst, ◌∙◌, arith, lt-ltb, length-append, suc-ne-zero, Bool, true, false}
use Rattle.std.specs.Prelude.{unwrap_or, slice_get, if◌then◌else◌}
use Rattle.std.specs.List.{All}
use Rattle.std.proofs.lemmas.Bool.{false≢true}
use Rattle.std.proofs.lemmas.List.{reverse-append, reverse-reverse, length-map}
use Rattle.std.proofs.lemmas.List.Elements.{All-nil, All-cons, All-head, All-tail}
use Rattle.std.proofs.lemmas.Option.{none-some, same_Some}
use Rattle.atomic_table.specs.Table.{rest}
use Rattle.amoebot_state.specs.declared.cell.CellName.{CellName}
use Rattle.amoebot_state.specs.declared.cell.CellName.TheVariants as name
use Rattle.amoebot_state.specs.declared.cell.Cell.{Cell}
use Rattle.amoebot_state.specs.declared.cell.Cell.TheVariants as cell
use Rattle.amoebot_state.specs.declared.verdict.Verdict.{Verdict}
use Rattle.amoebot_state.specs.declared.verdict.Verdict.TheVariants as decision
use Rattle.amoebot_state.specs.Configs.{Config}
use Rattle.amoebot_state.specs.Pairs.{Pairs, cell_of, nodes_in}
use Rattle.amoebot_state.proofs.Fronts.{slice_get_behind}
use Rattle.amoebot_state.specs.Known.{walls_read}
use Rattle.amoebot_state.specs.Walls.{node_numbers}
use Rattle.amoebot_state.specs.Zones.{Shown, IsShown, shown_by, shown_with}
use Rattle.claim_core.specs.declared.marks.Mark.{Mark}
use Rattle.claim_core.specs.declared.state.Caller.{Caller}
use Rattle.claim_core.specs.declared.state.Phase.{Phase}
use Rattle.claim_core.specs.declared.state.Phase.TheVariants.{Claim, Refusing, Looking, Taking, Committing, Releasing, Ended}
use Rattle.claim_core.specs.declared.state.Look.TheVariants as look
use Rattle.tri_lattice.specs.Extent.{Extent}
use Rattle.claim_core.specs.Cells.{number}
use Rattle.claim_core.specs.Good.{place_after}
use Rattle.claim_core.specs.Limits.{most_turns}
use Rattle.claim_rule.specs.Words.{node_word}
use Rattle.claim_core.specs.Machine.{Setup, bot, own_tag, found, next_of, after_win, caller_with_cell, opening_phase, freeing_caller, phase_of_verdict}
use Rattle.claim_core.specs.Soundness.{IsSetup}
use Rattle.amoebot_state.proofs.Occupants.{there_below}
use Rattle.amoebot_state.proofs.Shows.{is_shown_with}
use Rattle.claim_core.proofs.Frames.{own_there}
use Rattle.claim_core.proofs.Nexts.{frees-marks, frees-held}
use Rattle.claim_rule.specs.declared.views.Slot.{Slot}
use Rattle.claim_rule.specs.declared.views.Slot.TheVariants as slot
use Rattle.claim_rule.specs.declared.views.Record.{Record}
use Rattle.claim_rule.specs.Views.{Seated, like, own, goes_on}
use Rattle.tri_lattice.specs.declared.node.Node.{Node}
use Rattle.claim_rule.specs.declared.views.Note.{Note}
use Rattle.claim_rule.specs.Manners.{CommitWay, by_journal, by_ticket, first_slotted, has_slot, slot_of, noted_nodes}
use Rattle.claim_rule.specs.Plays.{IsPlaced, IsKnown, IsOthers, IsToTry, IsToTryNode, IsToFree, Wins, IsRefusedAt, tried, IsToFreeNode, IsToRead, occ_in, but_first, but_last, mark_of_phase, marked_at, released_caller, with_node, about, bot_in}
use Rattle.claim_rule.specs.Tokens.{AreOut, IsSeat, IsActivation, IsClaiming, IsStopped, HoldsWholeZone, HasMark, IsFreeing}

-- the last one is the first, the other way round
pub last_first : (xs : Pairs) (x : CellName × Cell) → reverse (xs ++ x ∷ []) ≡ x ∷ reverse xs
last_first xs x = reverse-append xs (x ∷ [])

-- the value of the slot that was taken last
abbrev first_value : List (ℕ × Slot) → Cell
first_value [] = cell.Spot None
first_value ((i, slot.Cell x) ∷ out) = x
first_value ((i, slot.Journal j) ∷ out) = cell.Spot None

abbrev tail_of : {A : Type 0} → List A → List A
tail_of [] = []
tail_of (x ∷ xs) = xs

-- there are no more nodes than cells
nodes_few : (ps : Pairs) → length (nodes_in ps) ≤ length ps
nodes_few [] = omega arith
nodes_few ((name.Spot v, x) ∷ ps) = let ih = nodes_few ps in omega (arith, ih)
nodes_few ((name.Body i, x) ∷ ps) = let ih = nodes_few ps in omega (arith, ih)

-- of a zone of which nothing was read, the body is next
pub begins : (g : Setup) (ok : IsSetup g) (c t : ℕ) → c < length g.lists.ids → IsKnown g (bot g c t) []
begins g ok c t listed = record {
  order = record { config = g.world; valid = ok.valid; area = refl; there = own_there g ok c t listed; front = refl };
  few = omega arith;
  placed = λ n e. subst (λ m. (i : ℕ) × IsPlaced g m i) (same_Some (name.Body b) n e) (g.world.area.w * g.world.area.h + b, (refl, omega (arith, there)));
  shown = λ e. absurd (none-some (name.Body b) (sym e));
}
  where
    b : ℕ
    b = bot g c t

    there : b < length g.world.bots
    there = there_below g.world b (own_there g ok c t listed)

-- of a whole zone some cell is held
pub whole_some : (g : Setup) (b : ℕ) (held : Pairs) → next_of g b held ≡ None → 0 < length held
whole_some g b [] e = absurd (none-some (name.Body b) (sym e))
whole_some g b (p ∷ held) e = omega arith

-- a turn of a list begins with a claim
pub opens_claim : (g : Setup) (t : ℕ) → t < g.lists.turns → opening_phase g t ≡ Claim
opens_claim g t lt = ap (λ e. if e then Claim else Ended) (lt-ltb t g.lists.turns lt)

-- a caller whose turn has its mark, and that holds cells, frees them
pub frees_phase : (g : Setup) (t : ℕ) (held : Pairs) (ms : List Mark) → 0 < length held → ((freeing_caller g t held ms).phase ≡ Releasing) × ((freeing_caller g t held ms).turn ≡ t)
frees_phase g t [] ms some = absurd (omega (arith, some))
frees_phase g t (p ∷ held) ms some = (refl, refl)

-- where no node is noted, there is no note
none_of : (ws : List Note) → map (λ (w : Note). w.node) ws ≡ [] → ws ≡ []
none_of [] e = refl
none_of (w ∷ ws) e = absurd (suc-ne-zero (length (map (λ (w : Note). w.node) ws)) (ap length e))

-- a decision is no mark
not_decided : (v : Verdict) → phase_of_verdict v ≡ Releasing → ⊥
not_decided decision.Idle e = cc
not_decided (decision.Failed f) e = cc
not_decided (decision.Change change) e = cc

-- a caller that frees cells is what it is by its turn, its cells and its marks
as_freed : (g : Setup) (k : Caller) (t : ℕ) (held : Pairs) → k.turn ≡ t → k.phase ≡ Releasing → k.held ≡ held → 0 < length held → k ≡ freeing_caller g t held k.marks
as_freed g k t [] turn phase are some = absurd (omega (arith, some))
as_freed g k t (p ∷ held) turn phase are some = λ i. record { turn = turn i; phase = phase i; held = are i; marks = k.marks }

-- the place that a turn without a change reads is the one behind its mark
read_place : (p : Phase) (place : ℕ) → IsToRead p → place_after (mark_of_phase p place) ≡ place
read_place Claim place reads = absurd reads
read_place (Refusing n t) place reads = refl
read_place (Looking look.Idle) place reads = refl
read_place (Looking (look.Failed f)) place reads = refl
read_place (Taking change) place reads = absurd reads
read_place (Committing change) place reads = absurd reads
read_place Releasing place reads = absurd reads
read_place Ended place reads = absurd reads

-- a slotted cell more is held, whose slot is out; and one less
out_more : (way : CommitWay) (a : Extent) (s : Bool) (n : CellName) (x y : Cell) (held : Pairs) (out : List (ℕ × Slot)) → has_slot way n ≡ true → (s ≡ false → y ≡ x) → AreOut way a s held out → AreOut way a s ((n, x) ∷ held) ((slot_of way a n, slot.Cell y) ∷ out)
out_more by_journal a s (name.Spot v) x y held out has same are = absurd (false≢true has)
out_more by_journal a s (name.Body i) x y held out has same are = (y, out, refl, same, are)
out_more by_ticket a s n x y held out has same are = (y, out, refl, same, are)

out_less : (way : CommitWay) (a : Extent) (s : Bool) (n : CellName) (x : Cell) (held : Pairs) (out : List (ℕ × Slot)) → has_slot way n ≡ true → AreOut way a s ((n, x) ∷ held) out
    → (y : Cell) × (more : List (ℕ × Slot)) × (out ≡ (slot_of way a n, slot.Cell y) ∷ more) × (s ≡ false → y ≡ x) × AreOut way a s held more
out_less by_journal a s (name.Spot v) x held out has are = absurd (false≢true has)
out_less by_journal a s (name.Body i) x held out has are = are
out_less by_ticket a s n x held out has are = are

out_none : (way : CommitWay) (a : Extent) (s : Bool) (out : List (ℕ × Slot)) → AreOut way a s [] out → out ≡ []
out_none by_journal a s out are = are
out_none by_ticket a s out are = are

none_out : (way : CommitWay) (a : Extent) (s : Bool) (out : List (ℕ × Slot)) → out ≡ [] → AreOut way a s [] out
none_out by_journal a s out are = are
none_out by_ticket a s out are = are

-- and no node more was noted
noted_still : (way : CommitWay) (n : CellName) (x : Cell) (held : Pairs) → has_slot way n ≡ true → noted_nodes way ((n, x) ∷ held) ≡ noted_nodes way held
noted_still by_journal (name.Spot v) x held has = absurd (false≢true has)
noted_still by_journal (name.Body i) x held has = refl
noted_still by_ticket n x held has = refl

noted_none : (way : CommitWay) → noted_nodes way [] ≡ []
noted_none by_journal = refl
noted_none by_ticket = refl

-- a slotted cell has no number below the first one
slotted_number : (way : CommitWay) (c : Config) (n : CellName) (i : ℕ) → has_slot way n ≡ true → number c.area n ≡ Some i → first_slotted way c ≤ i
slotted_number by_journal c (name.Spot v) i has e = absurd (false≢true has)
slotted_number by_journal c (name.Body j) i has e = (let f = same_Some (first_slotted by_journal c + j) i e in omega (arith, f))
slotted_number by_ticket c n i has e = omega arith

module _ {D : Type 0} (verdict : D → Shown → Verdict) (way : CommitWay) where
  -- the caller's next turn begins
  pub begun : (m : Seated D) (c u t b : ℕ) (bare : Config) (pairs : Pairs) (notes : List Note) → IsSeat verdict m c u bare → t ≡ (own m.0).caller.turn → t < (about verdict m.0).lists.turns → b ≡ bot_in verdict m.0 → pairs ≡ [] → notes ≡ []
      → IsActivation verdict way m c t b false bare pairs notes × IsClaiming verdict m t b pairs
  begun m c u t b bare pairs notes is turn lt of none no_notes =
      subst (λ (q : Pairs × List Note). IsActivation verdict way m c t b false bare q.0 q.1 × IsClaiming verdict m t b q.0) (λ i. (sym none i, sym no_notes i)) (
        record {
          alone = is.alone;
          run = is.run;
          number = is.number;
          listed = is.listed;
          turn = lt;
          bot = amoebot;
          taken = is.taken;
          world = is.world;
          held = ap (λ (k : Caller). k.held) is.rests;
          placed = All-nil (λ (p : CellName × Cell). (i : ℕ) × IsPlaced g (cell_of p) i);
          won = is.won;
          note = is.note;
          nodes = sym (noted_none way);
          few = All-nil (λ (w : Note). w.stamp ≤ most_turns);
          out = none_out way bare.area false m.1 is.out;
        },
        record {
          turn = sym turn;
          counted = is.counted ∙ sym (ap (λ (k : Caller). k.turn) is.rests) ∙ sym turn;
          phase = ap (λ (k : Caller). k.phase) is.rests ∙ ap (opening_phase g) (sym (ap (λ (k : Caller). k.turn) is.rests) ∙ sym turn) ∙ opens_claim g t lt;
          known = subst (λ x. IsKnown g x []) (sym amoebot) (begins g is.run c t is.listed);
        },
      )
    where
      g : Setup
      g = about verdict m.0

      amoebot : b ≡ bot g c t
      amoebot = of ∙ (λ i. bot g (is.number i) (sym turn i))

  module _ (m : Seated D) (c t b : ℕ) (s : Bool) (bare : Config) (pairs : Pairs) (notes : List Note) (is : IsActivation verdict way m c t b s bare pairs notes) where
    abbrev g : Setup
    g = about verdict m.0

    -- the amoebot of the view's turn, and the next cell
    pub bot_same : (own m.0).caller.turn ≡ t → bot_in verdict m.0 ≡ b
    bot_same turn = (λ i. bot g (is.number i) (turn i)) ∙ sym is.bot

    pub next_same : (own m.0).caller.turn ≡ t → next_of g (bot_in verdict m.0) (own m.0).caller.held ≡ next_of g b pairs
    next_same turn = λ i. next_of g (bot_same turn i) (is.held i)

    abbrev HasPlace : CellName × Cell → Type 0
    HasPlace p = (i : ℕ) × IsPlaced g (cell_of p) i

    -- the seat with another record of the same caller, which holds these cells and has the slots of the bodies among them out
    pub with_held : (u : Bool) (r : Record) (out : List (ℕ × Slot)) (cells : Pairs) (ws : List Note) → All (λ (w : Note). w.stamp ≤ most_turns) ws → r.number ≡ c → r.taken ≡ None → r.caller.held ≡ cells → All HasPlace cells → r.won ≡ ws → r.note ≡ None → map (λ (w : Note). w.node) ws ≡ noted_nodes way cells → AreOut way bare.area u cells out
        → IsActivation verdict way (like m.0 (r ∷ []), out) c t b u bare cells ws
    with_held u r out cells ws few number taken held placed won note nodes slots = record {
      alone = refl;
      run = is.run;
      number = number;
      listed = is.listed;
      turn = is.turn;
      bot = is.bot;
      taken = taken;
      world = is.world;
      held = held;
      placed = placed;
      won = won;
      note = note;
      nodes = nodes;
      few = few;
      out = slots;
    }

    -- the seat after a step that leaves it what it has out of slots
    pub stays : (m' : Seated D) (k : Caller) → m'.0 ≡ goes_on m.0 k → k.held ≡ (own m.0).caller.held → m'.1 ≡ m.1 → IsActivation verdict way m' c t b s bare pairs notes
    stays m' k view held out =
        subst (λ q. IsActivation verdict way q c t b s bare pairs notes) (λ i. (sym view i, sym out i))
        (with_held s (record (own m.0) { caller = k }) m.1 pairs notes is.few is.number is.taken (held ∙ is.held) is.placed is.won is.note is.nodes is.out)

    -- a slotted cell was won, and its value read
    module _ (n : CellName) (has : has_slot way n ≡ true) (cl : IsClaiming verdict m t b pairs) (next : next_of g (bot_in verdict m.0) (own m.0).caller.held ≡ Some n) where
      wins_it : (m' m2 : Seated D) (x v : Cell) → m'.0 ≡ goes_on m.0 (caller_with_cell g (own m.0).number (own m.0).caller n x) → m'.1 ≡ (slot_of way g.world.area n, slot.Cell x) ∷ m.1 → IsKnown g (bot_in verdict m.0) ((n, x) ∷ (own m.0).caller.held)
          → m'.1 ≡ (slot_of way g.world.area n, slot.Cell v) ∷ rest m'.1 → m2 ≡ m'
          → IsActivation verdict way m2 c t b s bare ((n, v) ∷ pairs) notes × IsClaiming verdict m2 t b ((n, v) ∷ pairs)
      wins_it m' m2 x v view out known read stays = subst (λ q. IsActivation verdict way q c t b s bare ((n, v) ∷ pairs) notes × IsClaiming verdict q t b ((n, v) ∷ pairs)) (sym now) (after, claiming)
        where
          k : Caller
          k = caller_with_cell g (own m.0).number (own m.0).caller n x

          same : v ≡ x
          same = ap first_value (sym read ∙ out)

          now : m2 ≡ (goes_on m.0 k, (slot_of way g.world.area n, slot.Cell x) ∷ m.1)
          now = stays ∙ (λ j. (view j, out j))

          pairs_are : (n, x) ∷ (own m.0).caller.held ≡ (n, v) ∷ pairs
          pairs_are = λ j. (n, sym same j) ∷ is.held j

          place : (j : ℕ) × IsPlaced g n j
          place = cl.known.placed n (sym (next_same cl.turn) ∙ next)

          outs : AreOut way bare.area s ((n, v) ∷ pairs) ((slot_of way g.world.area n, slot.Cell x) ∷ m.1)
          outs = subst (λ (q : Config). AreOut way bare.area s ((n, v) ∷ pairs) ((slot_of way q.area n, slot.Cell x) ∷ m.1)) is.world (out_more way bare.area s n v x pairs m.1 has (λ e. sym same) is.out)

          after : IsActivation verdict way (goes_on m.0 k, (slot_of way g.world.area n, slot.Cell x) ∷ m.1) c t b s bare ((n, v) ∷ pairs) notes
          after = with_held s (record (own m.0) { caller = k }) ((slot_of way g.world.area n, slot.Cell x) ∷ m.1) ((n, v) ∷ pairs) notes is.few is.number is.taken pairs_are (All-cons HasPlace (n, v) pairs place is.placed) is.won is.note
              (is.nodes ∙ sym (noted_still way n v pairs has)) outs

          claiming : IsClaiming verdict (goes_on m.0 k, (slot_of way g.world.area n, slot.Cell x) ∷ m.1) t b ((n, v) ∷ pairs)
          claiming = record {
            turn = cl.turn;
            counted = cl.counted;
            phase = λ j. after_win g (bot_same cl.turn j) (pairs_are j) (next_of g (bot_same cl.turn j) (pairs_are j));
            known = subst (λ (q : ℕ × Pairs). IsKnown g q.0 q.1) (λ j. (bot_same cl.turn j, pairs_are j)) known;
          }

      is_tried : tried verdict m.0 ≡ n
      is_tried = ap (λ o. unwrap_or o (name.Body 0)) next

      -- so it is after a try that won it
      pub wins_slotted : (m' m2 : Seated D) (v : Cell) (k : ℕ) → Wins verdict way m m' → k ≡ slot_of way bare.area n → m'.1 ≡ (k, slot.Cell v) ∷ rest m'.1 → m2 ≡ m'
          → IsActivation verdict way m2 c t b s bare ((n, v) ∷ pairs) notes × IsClaiming verdict m2 t b ((n, v) ∷ pairs)
      wins_slotted m' m2 v k won at_k read stays =
          wins_it m' m2 won.value v
          (won.now ∙ ap (λ q. goes_on m.0 (caller_with_cell g (own m.0).number (own m.0).caller q won.value)) is_tried)
          (won.out ∙ ap (λ q. (slot_of way g.world.area q, slot.Cell won.value) ∷ m.1) is_tried)
          (subst (λ q. IsKnown g (bot_in verdict m.0) ((q, won.value) ∷ (own m.0).caller.held)) is_tried won.known)
          (read ∙ ap (λ q. (q, slot.Cell v) ∷ rest m'.1) (at_k ∙ ap (λ (q : Config). slot_of way q.area n) is.world)) stays

      -- its slot is out then
      pub its_value : (m' : Seated D) (k : ℕ) → Wins verdict way m m' → k ≡ slot_of way bare.area n → (x : Cell) × (m'.1 ≡ (k, slot.Cell x) ∷ rest m'.1)
      its_value m' k won at_k =
          let here : k ≡ slot_of way g.world.area n = at_k ∙ ap (λ (q : Config). slot_of way q.area n) is.world in
          let out : m'.1 ≡ (k, slot.Cell won.value) ∷ m.1 = won.out ∙ ap (λ q. (slot_of way g.world.area q, slot.Cell won.value) ∷ m.1) is_tried ∙ ap (λ q. (q, slot.Cell won.value) ∷ m.1) (sym here) in
          (won.value, out ∙ ap (λ (more : List (ℕ × Slot)). (k, slot.Cell won.value) ∷ more) (sym (ap rest out)))

      -- the slotted cell is tried next
      pub to_try_slotted : (j tag : ℕ) → number bare.area n ≡ Some j → tag ≡ own_tag g c t → IsToTry verdict way j tag m.0
      to_try_slotted j tag at_j mine =
          let nx = sym (next_same cl.turn) ∙ next in
          let place = cl.known.placed n nx in
          let same : place.0 ≡ j = same_Some place.0 j (sym place.1.0 ∙ ap (λ (q : Config). number q.area n) (sym is.world) ∙ at_j) in
          let placed : IsPlaced g n j = subst (IsPlaced g n) same place.1 in
          record {
            phase = cl.phase ∙ ap (after_win g b pairs) nx;
            next = next ∙ ap (λ q. Some q) (sym is_tried);
            placed = subst (λ q. IsPlaced g q j) (sym is_tried) placed;
            slotted = slotted_number way g.world n j has placed.0;
            tag = mine ∙ (λ k. own_tag g (sym is.number k) (sym cl.turn k));
          }

    -- another caller's tag was found
    pub stops : (m' : Seated D) (n : CellName) (tag : ℕ) → IsClaiming verdict m t b pairs → next_of g (bot_in verdict m.0) (own m.0).caller.held ≡ Some n
        → m'.0 ≡ like m.0 (record (own m.0) { caller = record (own m.0).caller { phase = Refusing n tag }; note = None } ∷ []) → m'.1 ≡ m.1 → IsOthers g (own m.0).number tag → IsActivation verdict way m' c t b s bare pairs notes × IsStopped verdict m' c t b pairs
    stops m' n tag cl next view out other = subst (λ (q : Seated D). IsActivation verdict way q c t b s bare pairs notes × IsStopped verdict q c t b pairs) (λ j. (sym view j, sym out j)) (
      with_held s (record (own m.0) { caller = record (own m.0).caller { phase = Refusing n tag }; note = None }) m.1 pairs notes is.few is.number is.taken is.held is.placed is.won refl is.nodes is.out,
      record {
        turn = cl.turn;
        counted = cl.counted;
        cell = n;
        next = sym (next_same cl.turn) ∙ next;
        tag = tag;
        other = subst (λ k. IsOthers g k tag) is.number other;
        phase = refl;
      },
    )

    -- so it is after a try of a slotted cell
    pub stops_slotted : (m' : Seated D) (n : CellName) (tag : ℕ) → IsClaiming verdict m t b pairs → next_of g (bot_in verdict m.0) (own m.0).caller.held ≡ Some n → IsRefusedAt verdict tag m m' → IsActivation verdict way m' c t b s bare pairs notes × IsStopped verdict m' c t b pairs
    stops_slotted m' n tag cl next by =
        stops m' n tag cl next
        (by.now ∙ (λ j. like m.0 (record (own m.0) { caller = record (own m.0).caller { phase = Refusing (ap (λ o. unwrap_or o (name.Body 0)) next j) tag }; note = is.note j } ∷ []))) by.out by.other

    abbrev marks_with : ℕ → List Mark
    marks_with place = (own m.0).caller.marks ++ mark_of_phase (own m.0).caller.phase place ∷ []

    marks_are : (turn place : ℕ) → (freeing_caller g turn (own m.0).caller.held (marks_with place)).marks ≡ marks_with place
    marks_are turn place = frees-marks g turn (own m.0).caller.held (marks_with place)

    -- the turn has its mark, at the place that was read
    has_mark : (place : ℕ) → length (own m.0).caller.marks ≡ t → IsToRead (own m.0).caller.phase → place ≤ most_turns → (turn : ℕ) → HasMark (goes_on m.0 (marked_at g (own m.0).caller place), m.1) t place
    has_mark place counted reads few turn = record {
      mark = mark_of_phase (own m.0).caller.phase place;
      counted = ap (λ (ms : List Mark). length ms) (marks_are (own m.0).caller.turn place) ∙ length-append (own m.0).caller.marks (mark_of_phase (own m.0).caller.phase place ∷ []) ∙ ap (λ n. n + 1) counted;
      there = ap (λ ms. slice_get ms t) (marks_are (own m.0).caller.turn place) ∙ ap (slice_get (marks_with place)) (sym counted) ∙ slice_get_behind (own m.0).caller.marks (mark_of_phase (own m.0).caller.phase place) [];
      stamp = sym (read_place (own m.0).caller.phase place reads);
      few = few;
    }

    pub marks : (m' : Seated D) (place : ℕ) → (own m.0).caller.turn ≡ t → length (own m.0).caller.marks ≡ t → IsToRead (own m.0).caller.phase → place ≤ most_turns → m'.0 ≡ goes_on m.0 (marked_at g (own m.0).caller place) → m'.1 ≡ m.1
        → IsActivation verdict way m' c t b s bare pairs notes × IsFreeing verdict m' t pairs place
    marks m' place turn counted reads few view out = (
      stays m' (marked_at g (own m.0).caller place) view (frees-held g (own m.0).caller.turn (own m.0).caller.held _) out,
      subst (λ q. IsFreeing verdict q t pairs place) (λ i. (sym view i, sym out i)) (record { caller = now; marked = has_mark place counted reads few t }),
    )
      where
        now : marked_at g (own m.0).caller place ≡ freeing_caller g t pairs (marked_at g (own m.0).caller place).marks
        now = λ i. freeing_caller g (turn i) (is.held i) (sym (marks_are (own m.0).caller.turn place) i)

    -- the turn of a whole zone has its mark
    pub looked : (m' : Seated D) (place after : ℕ) (told : Shown) → HoldsWholeZone verdict m t b pairs told after → IsToRead (own m.0).caller.phase → place ≤ most_turns → m'.0 ≡ goes_on m.0 (marked_at g (own m.0).caller place) → m'.1 ≡ m.1
        → IsActivation verdict way m' c t b s bare pairs notes × HoldsWholeZone verdict m' t b pairs told place
    looked m' place after told wh reads few view out = (
      stays m' (marked_at g (own m.0).caller place) view (frees-held g (own m.0).caller.turn (own m.0).caller.held _) out,
      subst (λ q. HoldsWholeZone verdict q t b pairs told place) (λ i. (sym view i, sym out i)) now,
    )
      where
        some : 0 < length (own m.0).caller.held
        some = subst (λ ps. 0 < length ps) (sym is.held) (whole_some g b pairs wh.whole)

        counted : length (own m.0).caller.marks ≡ t
        counted = elim wh.phase [
          | inl decided ↦ decided.1
          | inr released ↦ absurd (subst IsToRead released.0 reads)
        ]

        now : HoldsWholeZone verdict (goes_on m.0 (marked_at g (own m.0).caller place), m.1) t b pairs told place
        now = record {
          turn = (frees_phase g (own m.0).caller.turn (own m.0).caller.held (marks_with place) some).1 ∙ wh.turn;
          whole = wh.whole;
          shown = wh.shown;
          phase = inr ((frees_phase g (own m.0).caller.turn (own m.0).caller.held (marks_with place) some).0, has_mark place counted reads few t);
        }

    -- a marked turn of a whole zone frees its cells
    pub unsealed : (told : Shown) (after : ℕ) → HoldsWholeZone verdict m t b pairs told after → (own m.0).caller.phase ≡ Releasing → IsFreeing verdict m t pairs after × (0 < length pairs)
    unsealed told after wh marked = (record { caller = now; marked = has }, whole_some g b pairs wh.whole)
      where
        has : HasMark m t after
        has = elim wh.phase [
          | inl decided ↦ absurd (not_decided ((about verdict m.0).verdict told) (sym decided.0 ∙ marked))
          | inr released ↦ released.1
        ]

        now : (own m.0).caller ≡ freeing_caller g t pairs (own m.0).caller.marks
        now = as_freed g (own m.0).caller t pairs wh.turn marked is.held (whole_some g b pairs wh.whole)

    -- what is put together of the cells and of the walls among them is what was found
    pub found_is : (found_cells : Pairs) (walls : List Node) → pairs ≡ reverse found_cells → walls ≡ walls_read g.world found_cells → shown_by bare.area bare.maxes b (node_numbers bare.area walls) found_cells ≡ found g b pairs
    found_is found_cells walls are known =
        is_shown_with g.world b bare.area bare.maxes found_cells walls is.run.valid (ap (λ (q : Config). q.area) is.world) (ap (λ (q : Config). q.maxes) is.world) known
        ∙ ap (shown_with g.world b) (sym (ap reverse are ∙ reverse-reverse found_cells))

    -- and that in a whole zone is what some configuration shows
    pub whole_is_shown : (found_cells : Pairs) (walls : List Node) → IsClaiming verdict m t b pairs → pairs ≡ reverse found_cells → walls ≡ walls_read g.world found_cells → next_of g (bot_in verdict m.0) (own m.0).caller.held ≡ None
        → IsShown (shown_by bare.area bare.maxes b (node_numbers bare.area walls) found_cells)
    whole_is_shown found_cells walls cl are known none = subst IsShown (sym (found_is found_cells walls are known)) (cl.known.shown (sym (next_same cl.turn) ∙ none))

    -- and it is what its turn decides on
    pub whole_is_held : (found_cells : Pairs) (walls : List Node) (after : ℕ) → IsClaiming verdict m t b pairs → pairs ≡ reverse found_cells → walls ≡ walls_read g.world found_cells → next_of g (bot_in verdict m.0) (own m.0).caller.held ≡ None
        → HoldsWholeZone verdict m t b pairs (shown_by bare.area bare.maxes b (node_numbers bare.area walls) found_cells) after
    whole_is_held found_cells walls after cl are known none =
        let all = sym (next_same cl.turn) ∙ none in
        let told = found_is found_cells walls are known in
        record {
          turn = cl.turn;
          whole = all;
          shown = told;
          phase = inl (cl.phase ∙ ap (after_win g b pairs) all ∙ ap (λ (s : Shown). phase_of_verdict (g.verdict s)) (sym told), cl.counted);
        }

    -- the cell that was won last is freed
    module _ (n : CellName) (x : Cell) (held : Pairs) (are : pairs ≡ (n, x) ∷ held) (after : ℕ) (fr : IsFreeing verdict m t pairs after) where
      turn_is : (own m.0).caller.turn ≡ t
      turn_is = ap (λ (k : Caller). k.turn) fr.caller ∙ ap (λ ps. (freeing_caller g t ps (own m.0).caller.marks).turn) are

      phase_is : (own m.0).caller.phase ≡ Releasing
      phase_is = ap (λ (k : Caller). k.phase) fr.caller ∙ ap (λ ps. (freeing_caller g t ps (own m.0).caller.marks).phase) are

      -- it has a number
      pub last_placed : (i : ℕ) × IsPlaced g n i
      last_placed = All-head HasPlace (n, x) held (subst (All HasPlace) are is.placed)

      pub last_number : (i : ℕ) → number bare.area n ≡ Some i → IsPlaced g n i
      last_number i at_n =
          let same : last_placed.0 ≡ i = same_Some last_placed.0 i (sym last_placed.1.0 ∙ ap (λ (q : Config). number q.area n) (sym is.world) ∙ at_n) in
          subst (IsPlaced g n) same last_placed.1

      k : Caller
      k = released_caller g (own m.0).caller

      k_is : released_caller g (own m.0).caller ≡ freeing_caller g t held (own m.0).caller.marks
      k_is = λ j. freeing_caller g (turn_is j) (but_last ((is.held ∙ are) j)) (own m.0).caller.marks

      rest_placed : All HasPlace held
      rest_placed = All-tail HasPlace (n, x) held (subst (All HasPlace) are is.placed)

      freeing_still : (r : Record) (out : List (ℕ × Slot)) → r.caller ≡ released_caller g (own m.0).caller → IsFreeing verdict (like m.0 (r ∷ []), out) t held after
      freeing_still r out same =
          let marks : r.caller.marks ≡ (own m.0).caller.marks = ap (λ (j : Caller). j.marks) (same ∙ k_is) ∙ frees-marks g t held (own m.0).caller.marks in
          record {
            caller = same ∙ k_is ∙ ap (freeing_caller g t held) (sym marks);
            marked = record { mark = fr.marked.mark; counted = ap (λ (ms : List Mark). length ms) marks ∙ fr.marked.counted; there = ap (λ ms. slice_get ms t) marks ∙ fr.marked.there; stamp = fr.marked.stamp; few = fr.marked.few };
          }

    -- a slotted cell
    module _ (n : CellName) (x : Cell) (held : Pairs) (are : pairs ≡ (n, x) ∷ held) (has : has_slot way n ≡ true) (after : ℕ) (fr : IsFreeing verdict m t pairs after) where
      outs : (y : Cell) × (more : List (ℕ × Slot)) × (m.1 ≡ (slot_of way bare.area n, slot.Cell y) ∷ more) × (s ≡ false → y ≡ x) × AreOut way bare.area s held more
      outs = out_less way bare.area s n x held m.1 has (subst (λ (ps : Pairs). AreOut way bare.area s ps m.1) are is.out)

      -- its slot is out
      pub its_slot : (y : Cell) × (m.1 ≡ (slot_of way bare.area n, slot.Cell y) ∷ rest m.1) × (s ≡ false → y ≡ x)
      its_slot = (outs.0, outs.2 ∙ ap (λ (more : List (ℕ × Slot)). (slot_of way bare.area n, slot.Cell outs.0) ∷ more) (sym (ap rest outs.2)), outs.3)

      pub to_free : (m' : Seated D) (j : ℕ) → number bare.area n ≡ Some j → m' ≡ (m.0, (slot_of way bare.area n, slot.Cell x) ∷ rest m.1) → IsToFree verdict way j m'
      to_free m' j at_n now =
          let placed = last_number n x held are after fr j at_n in
          subst (IsToFree verdict way j) (sym now) (record {
            phase = phase_is n x held are after fr;
            inside = placed.1;
            slotted = slotted_number way g.world n j has placed.0;
            last = (n, x, held, rest m.1, is.held ∙ are, placed.0, ap (λ (q : Config). (slot_of way q.area n, slot.Cell x) ∷ rest m.1) is.world);
          })

      pub frees_slotted : (m' m2 : Seated D) → m' ≡ (m.0, (slot_of way bare.area n, slot.Cell x) ∷ rest m.1) → m2.0 ≡ goes_on m'.0 (released_caller (about verdict m'.0) (own m'.0).caller) → m2.1 ≡ rest m'.1 → IsActivation verdict way m2 c t b s bare held notes × IsFreeing verdict m2 t held after
      frees_slotted m' m2 now view out = subst (λ q. IsActivation verdict way q c t b s bare held notes × IsFreeing verdict q t held after) (sym is_now) (
        with_held s (record (own m.0) { caller = released_caller g (own m.0).caller }) (rest m.1) held notes is.few is.number is.taken
            (ap (λ (j : Caller). j.held) (k_is n x held are after fr) ∙ frees-held g t held (own m.0).caller.marks) (rest_placed n x held are after fr) is.won is.note (is.nodes ∙ ap (noted_nodes way) are ∙ noted_still way n x held has) (subst (AreOut way bare.area s held) (sym (ap rest outs.2)) outs.4),
        freeing_still n x held are after fr (record (own m.0) { caller = released_caller g (own m.0).caller }) (rest m.1) refl,
      )
        where
          is_now : m2 ≡ (goes_on m.0 (released_caller g (own m.0).caller), rest m.1)
          is_now = λ j. (
            (view ∙ ap (λ (q : Seated D). goes_on q.0 (released_caller (about verdict q.0) (own q.0).caller)) now) j,
            (out ∙ ap (λ (q : Seated D). rest q.1) now) j,
          )

    -- with nothing held the next turn begins
    pub ends : (after : ℕ) → IsFreeing verdict m t pairs after → pairs ≡ [] → IsSeat verdict m c (t + 1) bare
    ends after fr none = record {
      alone = is.alone;
      run = is.run;
      number = is.number;
      listed = is.listed;
      counted = fr.marked.counted;
      rests = fr.caller ∙ ap (λ ps. freeing_caller g t ps (own m.0).caller.marks) none;
      taken = is.taken;
      won = is.won ∙ none_of notes (is.nodes ∙ ap (noted_nodes way) none ∙ noted_none way);
      note = is.note;
      out = out_none way bare.area s m.1 (subst (λ (ps : Pairs). AreOut way bare.area s ps m.1) none is.out);
      world = is.world;
    }

-- a node whose word was noted
module _ {D : Type 0} (verdict : D → Shown → Verdict) (m : Seated D) (c t b : ℕ) (s : Bool) (bare : Config) (pairs : Pairs) (notes : List Note) (is : IsActivation verdict by_journal m c t b s bare pairs notes) where
  abbrev h : Setup
  h = about verdict m.0

  -- a node was won, with what its word said
  pub wins_node : (m' : Seated D) (v : Node) (w : Note) → w.node ≡ v → w.stamp ≤ most_turns → IsClaiming verdict m t b pairs → next_of h (bot_in verdict m.0) (own m.0).caller.held ≡ Some (name.Spot v)
      → m'.0 ≡ like m.0 (with_node h (own m.0) w ∷ []) → m'.1 ≡ m.1 → IsKnown h (bot_in verdict m.0) ((name.Spot w.node, cell.Spot w.occ) ∷ (own m.0).caller.held)
      → IsActivation verdict by_journal m' c t b s bare ((name.Spot v, cell.Spot w.occ) ∷ pairs) (w ∷ notes) × IsClaiming verdict m' t b ((name.Spot v, cell.Spot w.occ) ∷ pairs)
  wins_node m' v w of small cl next view out known = subst (λ q. IsActivation verdict by_journal q c t b s bare ((name.Spot v, cell.Spot w.occ) ∷ pairs) (w ∷ notes) × IsClaiming verdict q t b ((name.Spot v, cell.Spot w.occ) ∷ pairs)) (λ j. (sym view j, sym out j)) (after, claiming)
    where
      r : Record
      r = with_node h (own m.0) w

      pairs_are : (name.Spot w.node, cell.Spot w.occ) ∷ (own m.0).caller.held ≡ (name.Spot v, cell.Spot w.occ) ∷ pairs
      pairs_are = λ j. (name.Spot (of j), cell.Spot w.occ) ∷ is.held j

      place : (j : ℕ) × IsPlaced h (name.Spot v) j
      place = cl.known.placed (name.Spot v) (sym (next_same verdict by_journal m c t b s bare pairs notes is cl.turn) ∙ next)

      after : IsActivation verdict by_journal (like m.0 (r ∷ []), m.1) c t b s bare ((name.Spot v, cell.Spot w.occ) ∷ pairs) (w ∷ notes)
      after = with_held verdict by_journal m c t b s bare pairs notes is s r m.1 ((name.Spot v, cell.Spot w.occ) ∷ pairs) (w ∷ notes) (All-cons (λ (u : Note). u.stamp ≤ most_turns) w notes small is.few) is.number is.taken pairs_are (All-cons (HasPlace verdict by_journal m c t b s bare pairs notes is) (name.Spot v, cell.Spot w.occ) pairs place is.placed) (λ j. w ∷ is.won j) refl (λ j. of j ∷ is.nodes j) is.out

      claiming : IsClaiming verdict (like m.0 (r ∷ []), m.1) t b ((name.Spot v, cell.Spot w.occ) ∷ pairs)
      claiming = record {
        turn = cl.turn;
        counted = cl.counted;
        phase = λ j. after_win h (bot_same verdict by_journal m c t b s bare pairs notes is cl.turn j) (pairs_are j) (next_of h (bot_same verdict by_journal m c t b s bare pairs notes is cl.turn j) (pairs_are j));
        known = subst (λ (q : ℕ × Pairs). IsKnown h q.0 q.1) (λ j. (bot_same verdict by_journal m c t b s bare pairs notes is cl.turn j, pairs_are j)) known;
      }

  -- the node is tried next
  pub to_try : (v : Node) (i : ℕ) → IsClaiming verdict m t b pairs → next_of h (bot_in verdict m.0) (own m.0).caller.held ≡ Some (name.Spot v) → number bare.area (name.Spot v) ≡ Some i → (to : IsToTryNode verdict i m.0) × (to.node ≡ v)
  to_try v i cl next at_i =
      let nx = sym (next_same verdict by_journal m c t b s bare pairs notes is cl.turn) ∙ next in
      let place = cl.known.placed (name.Spot v) nx in
      let same : place.0 ≡ i = same_Some place.0 i (sym place.1.0 ∙ ap (λ (q : Config). number q.area (name.Spot v)) (sym is.world) ∙ at_i) in
      (record { phase = cl.phase ∙ ap (after_win h b pairs) nx; node = v; next = next; placed = subst (IsPlaced h (name.Spot v)) same place.1 }, refl)

  -- there is room for one note more
  pub few_notes : (x : CellName × Cell) → IsKnown h (bot_in verdict m.0) (x ∷ (own m.0).caller.held) → length notes < 19
  few_notes x known =
      let n : length notes ≡ length (nodes_in pairs) = sym (length-map notes (λ (w : Note). w.node)) ∙ ap length is.nodes in
      let few = known.few in
      let held = ap length is.held in
      let le = nodes_few pairs in
      omega (arith, n, few, held, le)

  -- a node
  module _ (v : Node) (x : Cell) (held : Pairs) (are : pairs ≡ (name.Spot v, x) ∷ held) (w : Note) (ws : List Note) (notes_are : notes ≡ w ∷ ws) (after : ℕ) (fr : IsFreeing verdict m t pairs after) where
    pub note_few : w.stamp ≤ most_turns
    note_few = All-head (λ (u : Note). u.stamp ≤ most_turns) w ws (subst (All (λ (u : Note). u.stamp ≤ most_turns)) notes_are is.few)

    pub to_free_node : (i stamp : ℕ) → number bare.area (name.Spot v) ≡ Some i → (occ_in x ≡ w.occ → stamp ≡ w.stamp) → (occ_in x ≢ w.occ → stamp ≡ after) → IsToFreeNode verdict i (node_word 0 (occ_in x) stamp) m.0
    to_free_node i stamp at_n same changed = record {
      phase = phase_is verdict by_journal m c t b s bare pairs notes is (name.Spot v) x held are after fr;
      node = v;
      value = x;
      held = held;
      last = is.held ∙ are;
      placed = last_number verdict by_journal m c t b s bare pairs notes is (name.Spot v) x held are after fr i at_n;
      note = w;
      more = ws;
      won = is.won ∙ notes_are;
      stamp = stamp;
      left = record {
        same = same;
        changed = λ ne. (fr.marked.mark, ap (slice_get (own m.0).caller.marks) (turn_is verdict by_journal m c t b s bare pairs notes is (name.Spot v) x held are after fr) ∙ fr.marked.there, changed ne ∙ fr.marked.stamp);
      };
      word = refl;
    }

    pub frees_node : (m2 : Seated D) → m2.0 ≡ like m.0 (record (own m.0) { caller = released_caller h (own m.0).caller; won = but_first (own m.0).won } ∷ []) → m2.1 ≡ m.1 → IsActivation verdict by_journal m2 c t b s bare held ws × IsFreeing verdict m2 t held after
    frees_node m2 view out = subst (λ q. IsActivation verdict by_journal q c t b s bare held ws × IsFreeing verdict q t held after) (λ j. (sym view j, sym out j)) (
      with_held verdict by_journal m c t b s bare pairs notes is s (record (own m.0) { caller = released_caller h (own m.0).caller; won = but_first (own m.0).won }) m.1 held ws (All-tail (λ (u : Note). u.stamp ≤ most_turns) w ws (subst (All (λ (u : Note). u.stamp ≤ most_turns)) notes_are is.few)) is.number is.taken
          (ap (λ (j : Caller). j.held) (k_is verdict by_journal m c t b s bare pairs notes is (name.Spot v) x held are after fr) ∙ frees-held h t held (own m.0).caller.marks) (rest_placed verdict by_journal m c t b s bare pairs notes is (name.Spot v) x held are after fr)
          (ap but_first (is.won ∙ notes_are)) is.note (λ j. tail_of ((ap (map (λ (u : Note). u.node)) (sym notes_are) ∙ is.nodes ∙ ap nodes_in are) j)) (subst (λ (ps : Pairs). AreOut by_journal bare.area s ps m.1) are is.out),
      freeing_still verdict by_journal m c t b s bare pairs notes is (name.Spot v) x held are after fr (record (own m.0) { caller = released_caller h (own m.0).caller; won = but_first (own m.0).won }) m.1 refl,
    )
