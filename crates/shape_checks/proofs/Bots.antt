-- What holds of the nodes of each amoebot holds of each occupied node.
use Rattle.std.proofs.Common.{◌≡◌, ◌<◌, ℕ, ◌+◌, inl, inr, ap, sym, ◌∙◌, subst, arith, length, refl}
use Rattle.std.specs.Prelude.{IsTrue}
use Rattle.std.specs.declared.option.Option.TheVariants.{Some}
use Rattle.std.proofs.lemmas.Bool.{cases_eq}
use Rattle.std.proofs.lemmas.Option.{same_Some}
use Rattle.tri_lattice.specs.declared.node.Node.{Node}
use Rattle.tri_lattice.specs.Extent.{is_in}
use Rattle.amoebot_state.specs.declared.bot.Bot.{Bot}
use Rattle.amoebot_state.specs.Configs.{Config, IsValid, bot_at}
use Rattle.amoebot_state.specs.Occupied.{occupied}
use Rattle.amoebot_state.proofs.Occupied.{occupied_is_occupant}
use Rattle.amoebot_state.proofs.Occupants.{id_below}

-- what holds of the amoebots below an id, and of the one with it, holds of those below the next
pub bots_more : (w : Config) (P : Bot → Type 0) (i : ℕ) (b : Bot) → bot_at w i ≡ Some b → P b → ((j : ℕ) (o : Bot) → j < i → bot_at w j ≡ Some o → P o) → (j : ℕ) (o : Bot) → j < i + 1 → bot_at w j ≡ Some o → P o
bots_more w P i b at here before j o lt there = elim (cases_eq j i) [
  | inl e ↦ subst P (same_Some _ _ (sym at ∙ ap (bot_at w) (sym e) ∙ there)) here
  | inr ne ↦ before j o (omega arith) there
]

-- both nodes of an amoebot pass
abbrev pub Both : (Node → Type 0) → Bot → Type 0
Both P b = P b.head × P b.tail

pub each_occupied : (w : Config) → IsValid w → (P : Node → Type 0) → ((i : ℕ) (b : Bot) → i < length w.bots → bot_at w i ≡ Some b → Both P b) → (v : Node) → IsTrue (occupied w v) → P v
each_occupied w valid P each v on =
    let by = (occupied_is_occupant w v valid).0 on in
    let both = each by.0 by.1 (id_below w by.0 by.1 by.2) by.2 in
    elim by.3 [ inl h ↦ subst P h both.0 | inr t ↦ subst P t both.1 ]

pub head_occupied : (w : Config) → IsValid w → (i : ℕ) (b : Bot) → bot_at w i ≡ Some b → IsTrue (occupied w b.head)
head_occupied w valid i b at = (occupied_is_occupant w b.head valid).1 (i, b, at, inl refl)

pub tail_occupied : (w : Config) → IsValid w → (i : ℕ) (b : Bot) → bot_at w i ≡ Some b → IsTrue (occupied w b.tail)
tail_occupied w valid i b at = (occupied_is_occupant w b.tail valid).1 (i, b, at, inr refl)

-- an occupied node lies in the area
pub occupied_in : (w : Config) → IsValid w → (v : Node) → IsTrue (occupied w v) → IsTrue (is_in w.area v)
occupied_in w valid = each_occupied w valid (λ v. IsTrue (is_in w.area v)) (λ i b lt at. let fits = valid.each i b at in (fits.head, fits.tail))
