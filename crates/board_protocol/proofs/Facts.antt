-- The facts of the invariant.
use Rattle.std.proofs.Common.{◌≡◌, ◌<◌, ◌≤◌, suc, ℕ, [], ◌∷◌, ◌++◌, length, take}
use Rattle.board_protocol.specs.Basics.{In, Prefix, greatest}
use Rattle.board_protocol.specs.Board.{Board}
use Rattle.board_protocol.specs.Packets.{Promised, Install, Append, Accepted}
use Rattle.board_protocol.specs.World.{World}
use Rattle.board_protocol.specs.Laws.{Chosen}

module _ {C : Type 0} where
  -- One board.
  pub record Stands (w : World C) (k : ℕ) (x : Board C) : Type 0 where
    -- Its ballot had a leader, and is not above its promise.
    pub led : w.led x.ballot ≡ 1
    pub promised : x.ballot ≤ x.promised
    -- It accepted its list with its ballot, and nothing with a later one.
    pub now : w.accepted k x.ballot ≡ length x.list
    pub later : (b : ℕ) → x.ballot < b → w.accepted k b ≡ 0
    -- Its list is a prefix of its ballot's list, no shorter than what the leader began with.
    pub listed : Prefix x.list (w.book x.ballot)
    pub floor : w.base x.ballot ≤ length x.list
    -- Of its own ballot it has the whole list.
    pub own : w.owner x.ballot ≡ k → w.book x.ballot ≡ x.list
    -- A leader's ballot is its own, and is what it promised.
    pub leading_own : x.leads ≡ 1 → w.owner x.ballot ≡ k
    pub leading_promised : x.leads ≡ 1 → x.promised ≡ x.ballot

  pub record Standing (w : World C) : Type 0 where
    pub stands : (k : ℕ) → Stands w k (w.board k)
    -- The owner of a ballot that had a leader has accepted it, or a later one.
    pub past : (b : ℕ) → w.led b ≡ 1 → b ≤ (w.board (w.owner b)).ballot
    -- Nobody accepted more than the ballot's list, nor anything of a ballot that had no leader.
    pub small : (k b : ℕ) → w.accepted k b ≤ length (w.book b)
    pub used : (k b : ℕ) → 0 < w.accepted k b → w.led b ≡ 1

  -- A Promised tells what its board had accepted when it promised, and that has not changed below the promise.
  pub record PromisedFits (w : World C) (p : Promised C) : Type 0 where
    pub promised : p.ballot ≤ (w.board p.from).promised
    pub last : p.last ≤ p.ballot
    pub led : w.led p.last ≡ 1
    pub listed : Prefix p.list (w.book p.last)
    pub floor : w.base p.last ≤ length p.list
    pub between : (b : ℕ) → p.last < b → b < p.ballot → w.accepted p.from b ≡ 0
    pub at : p.last < p.ballot → w.accepted p.from p.last ≤ length p.list

  pub record InstallFits (w : World C) (p : Install C) : Type 0 where
    pub led : w.led p.ballot ≡ 1
    pub listed : Prefix p.list (w.book p.ballot)
    pub floor : w.base p.ballot ≤ length p.list

  pub record AppendFits (w : World C) (p : Append C) : Type 0 where
    pub led : w.led p.ballot ≡ 1
    pub place : p.place < length (w.book p.ballot)
    pub command : take (suc p.place) (w.book p.ballot) ≡ take p.place (w.book p.ballot) ++ (p.command ∷ [])

  pub record Sending (w : World C) : Type 0 where
    pub promises : (p : Promised C) → In p w.promises → PromisedFits w p
    pub installs : (p : Install C) → In p w.installs → InstallFits w p
    pub appends : (p : Append C) → In p w.appends → AppendFits w p
    -- An Accepted names no more than its board accepted.
    pub accepts : (p : Accepted) → In p w.accepts → p.length ≤ w.accepted p.from p.ballot

  -- A board that promised ballot c: below c it has accepted nothing above the source, and of the source no more than c's leader began with.
  pub record Voter (w : World C) (c source k : ℕ) : Type 0 where
    pub board : k < 3
    pub promised : c ≤ (w.board k).promised
    pub between : (b : ℕ) → source < b → b < c → w.accepted k b ≡ 0
    pub at : source < c → w.accepted k source ≤ w.base c

  -- How ballot c got its leader: two boards promised it, and the leader began with a part of the source's list.
  pub record Elected (w : World C) (c : ℕ) : Type 0 where
    pub source : ℕ
    pub led : w.led source ≡ 1
    pub below : 0 < c → source < c
    pub floor : w.base source ≤ w.base c
    pub reach : w.base c ≤ length (w.book source)
    pub within : w.base c ≤ length (w.book c)
    pub shared : take (w.base c) (w.book c) ≡ take (w.base c) (w.book source)
    pub one : ℕ
    pub other : ℕ
    pub apart : one ≡ other → ⊥
    pub one_voted : Voter w c source one
    pub other_voted : Voter w c source other

  abbrev pub Electing : World C → Type 0
  Electing w = (c : ℕ) → w.led c ≡ 1 → Elected w c

  -- What a board knows and has done.
  pub record Heads (w : World C) (k : ℕ) (x : Board C) : Type 0 where
    -- A leader knows no more of others than they accepted, and of itself nothing; its done is the greatest length that it knows.
    pub known : x.leads ≡ 1 → (j : ℕ) → x.known j ≤ suc (w.accepted j x.ballot)
    pub itself : x.leads ≡ 1 → x.known k ≤ 1
    pub done : x.leads ≡ 1 → x.done ≡ greatest x.known
    -- What is done is applied, and what is applied is chosen.
    pub covered : x.done ≤ length x.applied
    pub applied : k < 3 → Chosen w x.applied

  abbrev pub Heading : World C → Type 0
  Heading w = (k : ℕ) → Heads w k (w.board k)
