-- Stamps of the nodes are seen as stamps of the reigning epoch.
use Rattle.std.proofs.Common.{◌≡◌, ◌<◌, ⊎_elim, refl, ap, ◌∙◌, arith}
use Rattle.token_protocol.specs.World.{World}
use Rattle.token_protocol.specs.Laws.{EpochPromised}
use Rattle.token_protocol.specs.Stamps.{Stamp, TakenSeen, EqualSeen, StampedSeen, ActivationSeen, PromiseSeen, Unheard}

pub taken : TakenSeen
taken n x e s seen low high some same above =
    let promised = seen.promised in
    let reigning : s.epoch ≡ e = omega arith in (
      omega arith,
      reigning,
      ⊎_elim (λ (z : n.stamp.epoch < s.epoch). let o = seen.old (omega arith) in omega arith)
          (λ (z : (n.stamp.epoch ≡ s.epoch) × (n.stamp.turn < s.turn)). let o = seen.now (omega arith) in omega arith) above,
    )

pub equal : EqualSeen
equal n x e s seen low high same fact =
    let promised = seen.promised in
    let epoch = ap (λ (z : Stamp). z.epoch) fact in
    seen.now (omega arith) ∙ ap (λ (z : Stamp). z.turn) fact

pub stamped : StampedSeen
stamped n x e s seen fact = record { promised = seen.promised; past = omega arith; now = λ h. refl; old = λ h. absurd (omega arith) }

pub activated : ActivationSeen
activated n x e f seen later = record {
  promised = seen.promised;
  past = let p = seen.past in omega arith;
  now = λ h. absurd (let p = seen.past in omega arith);
  old = λ h. refl;
}

pub promised : PromiseSeen
promised n x e f seen = record { promised = refl; past = seen.past; now = seen.now; old = seen.old }

pub unheard : (w : World) → EpochPromised w → Unheard w
unheard w promise c e member below fact = let p = promise c member in omega arith
