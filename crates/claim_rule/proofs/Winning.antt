-- How the claim of a node comes on: what the seat keeps after a look at the node's word, and after a try to put the tag into it.
use Rattle.std.proofs.Common.{◌≡◌, ◌≢◌, ℕ, ◌+◌, ◌<◌, ◌≤◌, List, [], ◌∷◌, length, None, Some, ap, sym, refl, subst, ◌∙◌, arith, Bool}
use Rattle.std.proofs.lemmas.Option.{same_Some}
use mathlib.Core.Option as home
use Rattle.atomic_table.specs.Table.{step}
use Rattle.tri_lattice.specs.declared.node.Node.{Node}
use Rattle.amoebot_state.specs.declared.cell.CellName.TheVariants as name
use Rattle.amoebot_state.specs.declared.cell.Cell.TheVariants as cell
use Rattle.amoebot_state.specs.declared.verdict.Verdict.{Verdict}
use Rattle.amoebot_state.specs.Configs.{Config}
use Rattle.amoebot_state.specs.Pairs.{Pairs}
use Rattle.amoebot_state.specs.Zones.{Shown}
use Rattle.claim_core.specs.Cells.{number}
use Rattle.claim_core.specs.Limits.{most_turns}
use Rattle.claim_core.specs.Machine.{Setup, own_tag, next_of}
use Rattle.claim_rule.specs.declared.views.Note.{Note}
use Rattle.claim_rule.specs.Words.{word_tag, word_occ, word_stamp}
use Rattle.claim_rule.specs.Views.{Seated, own, like, with_note, seen}
use Rattle.claim_rule.specs.Plays.{IsKnown, IsOthers, IsToTryNode, IsToWin, LooksAt, TriesNode, StopsAt, NotesWord, WinsNode, about, bot_in, note_of, with_node, refused_at}
use Rattle.claim_rule.specs.Manners.{by_journal}
use Rattle.claim_rule.specs.Tokens.{unnoted, IsActivation, IsClaiming, IsNoting, IsStopped}
use Rattle.claim_rule.proofs.ActivationLemmas.{bot_same, next_same, with_held, stops, wins_node, to_try}

same_spot : (u v : Node) → name.Spot u ≡ name.Spot v → u ≡ v
same_spot u v e = cc

module _ {D : Type 0} (verdict : D → Shown → Verdict) (c t b : ℕ) (s : Bool) (bare : Config) (pairs : Pairs) (notes : List Note) (v : Node) where
  module _ (m : Seated D) (is : IsActivation verdict by_journal m c t b s bare pairs notes) (cl : IsClaiming verdict m t b pairs) (nx : next_of (about verdict m.0) b pairs ≡ Some (name.Spot v)) where
    abbrev g : Setup
    g = about verdict m.0

    its_next : next_of g (bot_in verdict m.0) (own m.0).caller.held ≡ Some (name.Spot v)
    its_next = next_same verdict by_journal m c t b s bare pairs notes is cl.turn ∙ nx

    is_node : (u : Node) → next_of g (bot_in verdict m.0) (own m.0).caller.held ≡ Some (name.Spot u) → u ≡ v
    is_node u e = same_spot u v (same_Some (name.Spot u) (name.Spot v) (sym e ∙ its_next))

    -- the seat with a note
    abbrev with : ℕ → Seated D
    with w = (like m.0 (with_note (own m.0) (Some (note_of v w)) ∷ []), m.1)

    -- a free word was found, and noted
    pub noted : (w : ℕ) (m' : Seated D) → word_tag w ≡ 0 → NotesWord verdict m w m' → IsNoting verdict m' c t b s bare pairs notes v w × (seen m'.0 ≡ seen m.0)
    noted w m' free n = (subst (λ (q : Seated D). IsNoting verdict q c t b s bare pairs notes v w) (sym now) noting, ap (λ (q : Seated D). seen q.0) now)
      where
        now : m' ≡ with w
        now = λ i. ((n.now ∙ ap (λ u. like m.0 (with_note (own m.0) (Some (note_of u w)) ∷ [])) (is_node n.node n.next)) i, n.out i)

        noting : IsNoting verdict (with w) c t b s bare pairs notes v w
        noting = record {
          alone = refl;
          activation = with_held verdict by_journal m c t b s bare pairs notes is s (with_note (own m.0) None) m.1 pairs notes is.few is.number is.taken is.held is.placed is.won refl is.nodes is.out;
          claiming = record { turn = cl.turn; counted = cl.counted; phase = cl.phase; known = cl.known };
          note = refl;
          next = nx;
          free = free;
          few = n.few;
        }

    -- another caller's tag was found
    pub stopped : (w : ℕ) (m' : Seated D) → StopsAt verdict m w m' → IsActivation verdict by_journal m' c t b s bare pairs notes × IsStopped verdict m' c t b pairs
    stopped w m' n = stops verdict by_journal m c t b s bare pairs notes is m' (name.Spot n.node) (word_tag w) cl n.next n.now n.out n.other

    -- and contracts see the refusal at this node
    pub seen_stopped : (w : ℕ) (m' : Seated D) → StopsAt verdict m w m' → seen m'.0 ≡ seen (like m.0 (refused_at (own m.0) v (word_tag w) ∷ []))
    seen_stopped w m' n = ap seen (n.now ∙ ap (λ u. like m.0 (refused_at (own m.0) u (word_tag w) ∷ [])) (is_node n.node n.next))

  module _ (m : Seated D) (w : ℕ) (is : IsNoting verdict m c t b s bare pairs notes v w) where
    abbrev h : Setup
    h = about verdict m.0

    -- the seat is about to try the word that it noted
    pub to_win : (i tag : ℕ) → number bare.area (name.Spot v) ≡ Some i → tag ≡ own_tag h c t → IsToWin verdict i w (w + tag) m.0
    to_win i tag at_i mine =
        let turn = is.claiming.turn in
        let its = its_next (unnoted m) is.activation is.claiming is.next in
        let to = to_try verdict (unnoted m) c t b s bare pairs notes is.activation v i is.claiming its at_i in
        record {
          tries = record { phase = to.0.phase; node = v; next = its; placed = subst (λ u. Rattle.claim_rule.specs.Plays.IsPlaced h (name.Spot u) i) to.1 to.0.placed };
          note = note_of v w;
          noted = is.note;
          of = refl;
          found = (is.free, refl, refl);
          put = ap (λ n. w + n) (mine ∙ (λ j. own_tag h (sym is.activation.number j) (sym turn j)));
        }

    module _ (i put slots again : ℕ) (m' : Seated D) (told : TriesNode verdict (step slots i w put home.none) m again m') where
      -- the noted word was found, and the node is won
      pub wins_it : again ≡ w → IsActivation verdict by_journal m' c t b s bare ((name.Spot v, cell.Spot (word_occ w)) ∷ pairs) (note_of v w ∷ notes) × IsClaiming verdict m' t b ((name.Spot v, cell.Spot (word_occ w)) ∷ pairs)
      wins_it hit =
          wins_node verdict (unnoted m) c t b s bare pairs notes is.activation m' v (note_of v w) refl is.few is.claiming (its_next (unnoted m) is.activation is.claiming is.next)
          (won.now ∙ ap (λ (u : Note). like m.0 (with_node h (own m.0) u ∷ [])) same) won.out
          (subst (λ (u : Note). IsKnown h (bot_in verdict m.0) ((name.Spot u.node, cell.Spot u.occ) ∷ (own m.0).caller.held)) same won.known)
        where
          won : WinsNode verdict m m'
          won = told.0 hit

          same : won.note ≡ note_of v w
          same = same_Some won.note (note_of v w) (sym won.noted ∙ is.note)

      -- and contracts see the cell with its value
      pub seen_won : again ≡ w → seen m'.0 ≡ seen (like m.0 (with_node h (own m.0) (note_of v w) ∷ []))
      seen_won hit =
          let won : WinsNode verdict m m' = told.0 hit in
          ap seen (won.now ∙ ap (λ (u : Note). like m.0 (with_node h (own m.0) u ∷ [])) (same_Some won.note (note_of v w) (sym won.noted ∙ is.note)))

      -- the noted word once more, as found by a seat without a note
      like_noted : NotesWord verdict m again m' → NotesWord verdict (unnoted m) again m'
      like_noted n = record { node = n.node; next = n.next; now = n.now; out = n.out; few = n.few }

      like_stopped : StopsAt verdict m again m' → StopsAt verdict (unnoted m) again m'
      like_stopped n = record { node = n.node; next = n.next; now = n.now; out = n.out; other = n.other }

      -- another free word was found, with a greater stamp
      pub noted_again : word_tag again ≡ 0 → again ≢ w → IsNoting verdict m' c t b s bare pairs notes v again × (seen m'.0 ≡ seen m.0) × (word_stamp w < word_stamp again) × (word_stamp again ≤ most_turns)
      noted_again free other =
          let n = told.2 free other in
          let all = noted (unnoted m) is.activation is.claiming is.next again m' free (like_noted n.0) in
          (all.0, all.1, n.1, n.0.few)

      -- another caller's tag was found
      pub stopped_again : word_tag again ≢ 0 → IsActivation verdict by_journal m' c t b s bare pairs notes × IsStopped verdict m' c t b pairs × (seen m'.0 ≡ seen (like m.0 (refused_at (own m.0) v (word_tag again) ∷ []))) × IsOthers h (own m.0).number (word_tag again)
      stopped_again held =
          let n = told.1 held in
          let all = stopped (unnoted m) is.activation is.claiming is.next again m' (like_stopped n) in
          (all.0, all.1, seen_stopped (unnoted m) is.activation is.claiming is.next again m' (like_stopped n), n.other)

      -- there is room for one cell more
      pub few_more : again ≡ w → (length notes < 19) × (length pairs < 19)
      few_more hit =
          let won : WinsNode verdict m m' = told.0 hit in
          let few = won.known.few in
          let held = ap length is.activation.held in
          (Rattle.claim_rule.proofs.ActivationLemmas.few_notes verdict (unnoted m) c t b s bare pairs notes is.activation (name.Spot won.note.node, cell.Spot won.note.occ) won.known, omega (arith, few, held))
