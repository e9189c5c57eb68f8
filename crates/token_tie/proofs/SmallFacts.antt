-- Small facts of modes as ranks, of stamps, and of open wants and fetches.
use Rattle.std.proofs.Common.{◌≡◌, ℕ, ◌==◌, ◌≤◌, ◌<◌, Bool, true, false, cond, ◌&&◌, Option, Some, None, is_none, refl, sym, ◌∙◌, arith, min}
use Rattle.std.proofs.lemmas.Bool.Decides.{nat_tests}
use Rattle.std.proofs.lemmas.Bool.{eqb-true}
use Rattle.xfs_base.specs.declared.token.Mode.{Mode}
use Rattle.xfs_base.specs.declared.token.Mode.TheVariants.{Nothing, Copy, Own}
use Rattle.xfs_base.specs.declared.token.Stamp.{Stamp}
use Rattle.token_client.specs.declared.held.Fetch.{Fetch}
use Rattle.token_client.specs.declared.held.Wanted.{Wanted}
use Rattle.token_client.specs.Held.{is_wanted}
use Rattle.token_protocol.specs.Basics.{put}
use Rattle.token_protocol.specs.Client.{Client}
use Rattle.token_protocol.specs.Entry as abstract_entry
use Rattle.token_protocol.specs.Stamps.{Node, Seen, Exceeds}
use Rattle.token_tie.specs.Seen.{WantShown, FetchShown, kept, stamp_seen}
use Rattle.xfs_base.specs.Modes.{is_held, is_own, mode_number, same_mode}
use Rattle.xfs_base.specs.Stamps.{is_later}
use Rattle.xfs_base.proofs.Booleans.{and_first, and_second, contrary}

pub put_back : (f : ℕ → Client) (c : ℕ) → put f c (f c) ≡ f
put_back f c = λ i d. one d i
  where
    one : (d : ℕ) → put f c (f c) d ≡ f d
    one d = grind (arith, nat_tests)

pub some_rank : (mode : Mode) → is_held mode ≡ true → 0 < mode_number mode
some_rank Nothing h = contrary h
some_rank Copy h = omega arith
some_rank Own h = omega arith

pub most_rank : (mode : Mode) → mode_number mode ≤ 2
most_rank Nothing = omega arith
most_rank Copy = omega arith
most_rank Own = omega arith

pub own_rank : (mode : Mode) → is_own mode ≡ true → mode_number mode ≡ 2
own_rank Nothing h = contrary h
own_rank Copy h = contrary h
own_rank Own h = refl

pub same_rank : (a b : Mode) → same_mode a b ≡ true → mode_number a ≡ mode_number b
same_rank Nothing Nothing h = refl
same_rank Nothing Copy h = contrary h
same_rank Nothing Own h = contrary h
same_rank Copy Nothing h = contrary h
same_rank Copy Copy h = refl
same_rank Copy Own h = contrary h
same_rank Own Nothing h = contrary h
same_rank Own Copy h = contrary h
same_rank Own Own h = refl

-- a stamp that is later exceeds
pub later_exceeds : (s t : Stamp) → is_later s t ≡ true → Exceeds (stamp_seen s) (stamp_seen t)
later_exceeds s t h = grind (arith, nat_tests)

-- an open want that an answer names
pub wanted_rank : (o : Option Wanted) (req : ℕ) (mode : Mode) (want request : ℕ) → is_wanted o req mode ≡ true → WantShown o want request
    → (want ≡ mode_number mode) × (request ≡ req) × (0 < mode_number mode)
wanted_rank None req mode want request named shown = contrary named
wanted_rank (Some v) req mode want request named shown =
    let same : mode_number v.mode ≡ mode_number mode = same_rank v.mode mode (and_second (v.req == req) (same_mode v.mode mode) named) in
    let some : 0 < mode_number v.mode = some_rank v.mode shown.2 in
    (shown.0 ∙ same, shown.1 ∙ eqb-true v.req req (and_first (v.req == req) (same_mode v.mode mode) named), omega arith)

-- the same stamp and promise are seen of a client that differs elsewhere
pub restamped : (n : Node) (x y : Client) (e : ℕ) → y.promised ≡ x.promised → y.stamp ≡ x.stamp → Seen n x e → Seen n y e
restamped n x y e p q s = record { promised = p ∙ s.promised; past = s.past; now = λ h. q ∙ s.now h; old = λ h. q ∙ s.old h }

pub given_rank : (mode : Mode) (keep t : Bool) → (keep && is_held mode) ≡ t → min (mode_number mode) (kept keep) ≡ cond t 1 0
given_rank mode keep true h = one mode keep h
  where
    one : (mode : Mode) (keep : Bool) → (keep && is_held mode) ≡ true → min (mode_number mode) (kept keep) ≡ 1
    one Nothing true h = contrary h
    one Copy true h = refl
    one Own true h = refl
    one mode false h = contrary h
given_rank mode keep false h = none mode keep h
  where
    none : (mode : Mode) (keep : Bool) → (keep && is_held mode) ≡ false → min (mode_number mode) (kept keep) ≡ 0
    none Nothing true h = refl
    none Copy true h = contrary (sym h)
    none Own true h = contrary (sym h)
    none Nothing false h = refl
    none Copy false h = refl
    none Own false h = refl

pub unfetching : (o : Option Fetch) (fetching : ℕ) (entry : abstract_entry.Entry) → is_none o ≡ true → FetchShown o fetching entry → FetchShown o 0 entry
unfetching None fetching entry none shown = refl
unfetching (Some f) fetching entry none shown = contrary none
