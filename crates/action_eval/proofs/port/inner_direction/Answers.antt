use Rattle.std.proofs.Common.{◌≡◌, ◌<◌, ◌+◌, ◌∙◌, ℕ, Bool, false, length, drop, get_or, drop-cons, add-one, refl}
use Rattle.std.specs.List.{find}
use Rattle.tri_lattice.specs.Lattice.{directions, step, node_eq}
use Rattle.amoebot_state.specs.Ports.{global}
use Rattle.action_eval.proofs.port.inner_direction.Goals as goal

next_direction : (test : ℕ → Bool) (i : ℕ) → i < length directions → test (get_or directions i 0) ≡ false → find test (drop i directions) ≡ find test (drop (i + 1) directions)
next_direction test i l f = rw add-one (rw (drop-cons directions i 0 l) (rw f refl))

pub loop-local-preserved : goal.loop-local-preserved
loop-local-preserved c =
    let b = c.args.own.now in
    let f : node_eq (step b.tail (global b (get_or directions c.loop-local.local-index 0))) b.head ≡ false = cc (c.eq.ensures, c.step.ensures, c.global.ensures, c.if-eq.false) in
    c.loop-local.invariant ∙ next_direction (λ i. node_eq (step b.tail (global b i)) b.head) c.loop-local.local-index c.loop-local-test.true f
