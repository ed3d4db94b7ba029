-- What writes change: the memory of amoebots of the zone. Positions stay, so the zone does.
use Rattle.std.proofs.Common.{◌≡◌, ◌<◌, ℕ, ℤ, pos, negsuc, List, [], ◌∷◌, ◌++◌, length, map, get_or, set, true, ap, sym, ◌∙◌, refl, subst, inl, inr, arith, Option, Some, None, filter, nat_eq}
use Rattle.std.specs.Prelude.{not, unsigned_abs, nat_le, slice_index, slice_set, unwrap_or}
use Rattle.std.specs.List.{filter_map}
use Rattle.std.specs.declared.result.Result.TheVariants.{Ok}
use Rattle.std.proofs.lemmas.Bool.{cases_eq, and_parts, and_from}
use Rattle.std.proofs.lemmas.List.{get_or-set_same, get_or-set_other, length-set}
use Rattle.tri_lattice.specs.declared.node.Node.{Node}
use Rattle.tri_lattice.specs.Extent.{Extent}
use Rattle.amoebot_state.specs.declared.bot.Bot.{Bot}
use Rattle.amoebot_state.specs.declared.bot.Port.{Port}
use Rattle.amoebot_state.specs.declared.cell.CellName.{CellName}
use Rattle.amoebot_state.specs.declared.cell.CellName.TheVariants as name
use Rattle.amoebot_state.specs.Ports.{is_port, behind}
use Rattle.amoebot_state.specs.Configs.{Config, IsValid, bot_at, bot_of, blank, occupant, set_bot, has_values}
use Rattle.amoebot_state.specs.Patches.{HasSameIds}
use Rattle.amoebot_state.specs.Zones.{zone, zone_nodes, distinct}
use Rattle.amoebot_state.proofs.Directions.{port_leads_beside}
use Rattle.amoebot_state.proofs.Zones.{own_in_zone, zone_is}
use Rattle.amoebot_state.proofs.Members.{Has}
use Rattle.model_ops.specs.Operations.{owner, write, with_value, is_value}
use Rattle.model_ops.specs.Reaches.{Writing, write_all}
use Rattle.model_ops.proofs.Told.{need_told, peer_told, then_told, ok_told, occupant_told, bot_is}
use Rattle.model_ops.proofs.Becomes.{MayBecome, become_valid, become_same, at_own, at_other, same_ids, same_size}
use Rattle.model_ops.proofs.SameIds.{still_same, both_same}
use Rattle.model_ops.proofs.Movements.{kept_there}
use Rattle.model_ops.proofs.Moved.{body_listed}

-- an amoebot without its memory
abbrev pub bare : Bot → Bot
bare b = record b { mem = [] }

-- d is c except for the memory of amoebots of the zone
pub record Writes (c : Config) (i : ℕ) (d : Config) : Type 0 where
  pub valid : IsValid d
  pub there : bot_at d i ≡ Some (bot_of d i)
  pub same : HasSameIds c d
  pub own : bare (bot_of d i) ≡ bare (bot_of c i)
  pub spots : (v : Node) → occupant d v ≡ occupant c v
  pub zone_stays : zone d i ≡ zone c i
  pub kept : (j : ℕ) → (Has (name.Body j) (zone c i) → ⊥) → bot_at d j ≡ bot_at c j

pub none_written : (c : Config) (i : ℕ) → IsValid c → bot_at c i ≡ Some (bot_of c i) → Writes c i c
none_written c i valid at = record { valid = valid; there = at; same = still_same c; own = refl; spots = λ v. refl; zone_stays = refl; kept = λ j lacks. refl }

pub both_written : (c m d : Config) (i : ℕ) → Writes c i m → Writes m i d → Writes c i d
both_written c m d i one two = record {
  valid = two.valid;
  there = two.there;
  same = both_same c m d one.same two.same;
  own = two.own ∙ one.own;
  spots = λ v. two.spots v ∙ one.spots v;
  zone_stays = two.zone_stays ∙ one.zone_stays;
  kept = λ j lacks. two.kept j (λ has. lacks (subst (Has (name.Body j)) one.zone_stays has)) ∙ one.kept j lacks;
}

-- where an amoebot stands and who occupies the nodes says which zone it has
zone_same : (c d : Config) (i : ℕ) (a b : Bot) → bot_at c i ≡ Some a → bot_at d i ≡ Some b → bare b ≡ bare a → d.area ≡ c.area → ((v : Node) → occupant d v ≡ occupant c v) → zone d i ≡ zone c i
zone_same c d i a b at to own area spots =
    let of : Extent → Bot → (Node → Option ℕ) → List CellName = λ e x o. name.Body i ∷ (map name.Spot (zone_nodes e x) ++ map name.Body (distinct nat_eq (filter (λ j. not (nat_eq j i)) (filter_map o (zone_nodes e x))))) in
    let moved : of d.area (bare b) (occupant d) ≡ of c.area (bare a) (occupant c) = λ t. of (area t) (own t) (λ v. spots v t) in
    zone_is d i b to ∙ moved ∙ sym (zone_is c i a at)

-- a value that is not above its maximum keeps all of them so
value_fits : (maxes mem : List ℕ) (x k : ℕ) → length mem ≡ 8 → nat_le k (slice_index maxes x) ≡ true → has_values maxes mem ≡ true → has_values maxes (slice_set mem x k) ≡ true
value_fits maxes mem x k eight le all =
    let (t0, r) = and_parts _ _ all in
    let (t1, r) = and_parts _ _ r in
    let (t2, r) = and_parts _ _ r in
    let (t3, r) = and_parts _ _ r in
    let (t4, r) = and_parts _ _ r in
    let (t5, r) = and_parts _ _ r in
    let (t6, r) = and_parts _ _ r in
    let (t7, r) = and_parts _ _ r in
    and_from _ _ (each 0 (omega arith) t0) (and_from _ _ (each 1 (omega arith) t1) (and_from _ _ (each 2 (omega arith) t2) (and_from _ _ (each 3 (omega arith) t3) (and_from _ _ (each 4 (omega arith) t4) (and_from _ _ (each 5 (omega arith) t5) (and_from _ _ (each 6 (omega arith) t6) (and_from _ _ (each 7 (omega arith) t7) r)))))))
  where
    each : (j : ℕ) → j < 8 → nat_le (slice_index mem j) (slice_index maxes j) ≡ true → nat_le (slice_index (slice_set mem x k) j) (slice_index maxes j) ≡ true
    each j lt was = elim (cases_eq j x) [
      | inl e ↦
          let within : x < length mem = omega arith in
          ap (λ z. nat_le z (slice_index maxes j)) (ap (λ y. get_or (set mem x k) y 0) e ∙ get_or-set_same mem x k 0 within) ∙ ap (λ y. nat_le k (slice_index maxes y)) e ∙ le
      | inr ne ↦ ap (λ z. nat_le z (slice_index maxes j)) (get_or-set_other mem x j k 0 ne) ∙ was
    ]

-- a number between 0 and the maximum
number_fits : (maxes : List ℕ) (x : ℕ) (s : ℤ) → is_value maxes x s ≡ true → nat_le (unsigned_abs s) (slice_index maxes x) ≡ true
number_fits maxes x (pos k) t = t
number_fits maxes x (negsuc k) t = absurd (cc)

pub may_write : (c : Config) (n x : ℕ) (s : ℤ) → IsValid c → bot_at c n ≡ Some (bot_of c n) → is_value c.maxes x s ≡ true → MayBecome c n (bot_of c n) (with_value (bot_of c n) x (unsigned_abs s))
may_write c n x s valid at ok =
    let b = bot_of c n in
    let fits = valid.each n b at in
    record {
      valid = valid;
      there = at;
      fits = record { head = fits.head; tail = fits.tail; head_open = fits.head_open; tail_open = fits.tail_open; close = fits.close; rot = fits.rot; values = value_fits c.maxes b.mem x (unsigned_abs s) fits.eight (number_fits c.maxes x s ok) fits.values; eight = length-set b.mem x (unsigned_abs s) ∙ fits.eight };
      free = λ v own. inl own;
    }

-- one write into the memory of an amoebot of the zone
set_written : (c : Config) (i n x : ℕ) (s : ℤ) → IsValid c → bot_at c i ≡ Some (bot_of c i) → bot_at c n ≡ Some (bot_of c n) → is_value c.maxes x s ≡ true → Has (name.Body n) (zone c i) → Writes c i (set_bot c n (with_value (bot_of c n) x (unsigned_abs s)))
set_written c i n x s valid at there ok listed =
    let b = bot_of c n in
    let w = with_value b x (unsigned_abs s) in
    let d = set_bot c n w in
    let may = may_write c n x s valid there ok in
    let spots : (v : Node) → occupant d v ≡ occupant c v = λ v. become_same c n b w may v refl in
    let own : (bot_at d i ≡ Some (bot_of d i)) × (bare (bot_of d i) ≡ bare (bot_of c i)) = elim (cases_eq i n) [
      | inl e ↦
          let now : bot_at d i ≡ Some w = ap (bot_at d) e ∙ at_own c n b w there in
          let is : bot_of d i ≡ w = bot_is d i w now in
          (now ∙ ap Some (sym is), ap bare is ∙ ap (λ j. bare (bot_of c j)) (sym e))
      | inr ne ↦ let same = at_other c n w i ne in (kept_there c d i same at, ap (λ o. bare (unwrap_or o blank)) same)
    ] in
    record {
      valid = become_valid c n b w may;
      there = own.0;
      same = record { rest = refl; size = same_size c n w; ids = same_ids c n b w there };
      own = own.1;
      spots = spots;
      zone_stays = zone_same c d i (bot_of c i) (bot_of d i) at own.0 own.1 refl spots;
      kept = λ j lacks. at_other c n w j (λ e. lacks (subst (λ k. Has (name.Body k) (zone c i)) (sym e) listed));
    }

-- whose memory an amoebot may write: its own, or that of an occupant behind a port
pub record Owns (c : Config) (i n : ℕ) : Type 0 where
  pub there : bot_at c n ≡ Some (bot_of c n)
  pub listed : Has (name.Body n) (zone c i)

pub owner_told : (c : Config) (i : ℕ) (p : Option Port) (n : ℕ) → IsValid c → bot_at c i ≡ Some (bot_of c i) → owner c i p ≡ Ok n → Owns c i n
owner_told c i None n valid at e = let P : ℕ → Type 0 = λ k. Owns c i k in subst P (ok_told e) (record { there = at; listed = own_in_zone c i (bot_of c i) at })
owner_told c i (Some p) n valid at e =
    let b = bot_of c i in
    let (port, e) = need_told (is_port b p) _ _ n e in
    let (k, by, e) = peer_told (occupant c (behind b p)) _ n e in
    let P : ℕ → Type 0 = λ j. Owns c i j in
    subst P (ok_told e) (record { there = (occupant_told c (behind b p) k by).0; listed = body_listed c i valid at (behind b p) k (port_leads_beside b p) by })

-- what the success of a write tells
pub record WriteTold (c : Config) (i : ℕ) (p : Option Port) (x : ℕ) (s : ℤ) (d : Config) : Type 0 where
  pub owner_id : ℕ
  pub by : owner c i p ≡ Ok owner_id
  pub owns : Owns c i owner_id
  pub ok : is_value c.maxes x s ≡ true
  pub is : d ≡ set_bot c owner_id (with_value (bot_of c owner_id) x (unsigned_abs s))

pub write_told : (c : Config) (i : ℕ) (p : Option Port) (x : ℕ) (s : ℤ) (d : Config) → IsValid c → bot_at c i ≡ Some (bot_of c i) → write c i p x s ≡ Ok d → WriteTold c i p x s d
write_told c i p x s d valid at e =
    let (n, by, e) = then_told (owner c i p) _ d e in
    let (ok, e) = need_told (is_value c.maxes x s) _ _ d e in
    record { owner_id = n; by = by; owns = owner_told c i p n valid at by; ok = ok; is = sym (ok_told e) }

pub written : (c : Config) (i : ℕ) (p : Option Port) (x : ℕ) (s : ℤ) (d : Config) → IsValid c → bot_at c i ≡ Some (bot_of c i) → write c i p x s ≡ Ok d → Writes c i d
written c i p x s d valid at e =
    let told = write_told c i p x s d valid at e in
    let P : Config → Type 0 = λ m. Writes c i m in
    subst P (sym told.is) (set_written c i told.owner_id x s valid at told.owns.there told.ok told.owns.listed)

pub all_written : (c : Config) (i : ℕ) (ws : List Writing) (d : Config) → IsValid c → bot_at c i ≡ Some (bot_of c i) → write_all c i ws ≡ Ok d → Writes c i d
all_written c i [] d valid at e = let P : Config → Type 0 = λ m. Writes c i m in subst P (ok_told e) (none_written c i valid at)
all_written c i (w ∷ ws) d valid at e =
    let (m, first, rest) = then_told (write c i w.port w.var w.value) _ d e in
    let one = written c i w.port w.var w.value m valid at first in
    both_written c m d i one (all_written m i ws d one.valid one.there rest)
