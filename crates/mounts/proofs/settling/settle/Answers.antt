use Rattle.std.proofs.Common.{◌≡◌, ◌∙◌, ◌≤◌, ◌++◌, ℕ, sym, ap, subst, length, length-append, ◌+◌, arith}
use Rattle.std.specs.Prelude.{List as Seq}
use Rattle.rtrb.specs.Ring.{IsPair, received, sent}
use Rattle.live_links.specs.Facts.{dues_at}
use Rattle.world_base.specs.declared.due.Due.{Due}
use Rattle.mounts.specs.declared.mount.Mount.{Mount}
use Rattle.mounts.specs.declared.port.Port.{Port}
use Rattle.mounts.specs.Ports.{AreJoined, IsMountAt, IsPortAt}
use Rattle.mounts.specs.Replies.{AreFirst}
use Rattle.mounts.proofs.Joined.{are_joined}
use Rattle.mounts.proofs.settling.settle.Goals as goal

-- the mount and the port of one place are joined
joined_here : (ports : Seq Port) (place other : ℕ) (m : Mount) (p : Port) → place ≡ other → ∥ IsMountAt ports other m ∥₁ → ∥ IsPortAt ports place p ∥₁ → AreJoined m p
joined_here ports place other m p same named at = are_joined ports place m p (subst (λ (k : ℕ). ∥ IsMountAt ports k m ∥₁) (sym same) named) at

pub compare_calls-requires : goal.compare_calls-requires
compare_calls-requires g c =
    let a = c.args.application in
    let k = c.args.client in
    let joined = joined_here g.R.MountName.ports k.cell.journal.place a.place a.mount k.port (c.is_of.ensures c.if-not-is_of.false) a.named k.named in
    let call : c.into_ends-call.result.0 ≡ a.mount.calls = c.into_ends-call.ensures.0 ∙ ap (λ (m : Mount). m.calls) c.into_parts-mount.ensures.0 in
    let called : c.into_ends-called.result.0 ≡ k.port.calls = c.into_ends-called.ensures.0 ∙ ap (λ (p : Port). p.calls) c.into_parts-cell.ensures.1 in
    subst (λ o. IsPair o c.into_ends-called.result.0) (sym call) (subst (λ d. IsPair a.mount.calls d) (sym called) joined.0)

pub all_replies-requires-clause-pair : goal.all_replies-requires-clause-pair
all_replies-requires-clause-pair g c =
    let a = c.args.application in
    let k = c.args.client in
    let joined = joined_here g.R.MountName.ports k.cell.journal.place a.place a.mount k.port (c.is_of.ensures c.if-not-is_of.false) a.named k.named in
    let replied : c.into_ends-call.result.1 ≡ a.mount.replies = c.into_ends-call.ensures.1 ∙ ap (λ (m : Mount). m.replies) c.into_parts-mount.ensures.0 in
    let reply : c.into_ends-called.result.1 ≡ k.port.replies = c.into_ends-called.ensures.1 ∙ ap (λ (p : Port). p.replies) c.into_parts-cell.ensures.1 in
    subst (λ o. IsPair o c.into_ends-call.result.1) (sym reply) (subst (λ d. IsPair k.port.replies d) (sym replied) joined.1)

pub all_replies-requires-clause-taken : goal.all_replies-requires-clause-taken
all_replies-requires-clause-taken g c =
    let a = c.args.application in
    let replied : c.into_ends-call.result.1 ≡ a.mount.replies = c.into_ends-call.ensures.1 ∙ ap (λ (m : Mount). m.replies) c.into_parts-mount.ensures.0 in
    c.into_parts-mount.ensures.2 ∙ a.replies_are ∙ ap received (sym replied)

pub returns-clause-calls : goal.returns-clause-calls
returns-clause-calls g c =
    let a = c.args.application in
    let k = c.args.client in
    let script = g.R.RunName.script in
    let place = k.cell.journal.place in
    let same : place ≡ a.place = c.is_of.ensures c.if-not-is_of.false in
    let call : c.into_ends-call.result.0 ≡ a.mount.calls = c.into_ends-call.ensures.0 ∙ ap (λ (m : Mount). m.calls) c.into_parts-mount.ensures.0 in
    let called : c.into_ends-called.result.0 ≡ k.port.calls = c.into_ends-called.ensures.0 ∙ ap (λ (p : Port). p.calls) c.into_parts-cell.ensures.1 in
    let known = c.compare_calls.ensures.0 in
    let front : received k.port.calls ++ known ≡ a.calls =
    ap (λ d. received d ++ known) (sym called) ∙ c.compare_calls.ensures.1 ∙ ap sent call ∙ sym a.calls_are
    in
    let dues : length a.dues ≡ length (dues_at script place) = ap (λ (ds : Seq Due). length ds) a.dues_are ∙ ap (λ (p : ℕ). length (dues_at script p)) (sym same) in
    let most : length a.calls ≤ length (dues_at script place) =
    let made = ap (λ (xs : Seq ℕ). length xs) a.calls_are in let room = a.mount.room in let slots = a.slots_are in omega arith
    in
    let heard : length (received k.port.calls) + length known ≡ length a.calls = sym (length-append (received k.port.calls) known) ∙ ap (λ (xs : Seq ℕ). length xs) front in
    let begun = k.begun_are in
    let first : AreFirst script place k.cell.journal.moments a.calls = record { in_order = a.items_are; most = most; begun = omega arith } in
    subst (λ (cs : Seq ℕ). AreFirst script place k.cell.journal.moments cs) (sym c.into_parts-mount.ensures.1) first

pub returns-clause-replies : goal.returns-clause-replies
returns-clause-replies g c =
    let k = c.args.client in
    let reply : c.into_ends-called.result.1 ≡ k.port.replies = c.into_ends-called.ensures.1 ∙ ap (λ (p : Port). p.replies) c.into_parts-cell.ensures.1 in
    c.in_ok-replies.ensures ∙ ap sent reply ∙ k.given_are
