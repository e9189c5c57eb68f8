-- What a client knows of one block, and how each event changes it.
use Rattle.std.specs.Prelude.{ℕ, ◌+◌, Bool, false, ◌&&◌, ◌||◌, ◌==◌, nat_lt, nat_le, not, List, Option, Some, None, is_some, is_none, if◌then◌else◌}
use Rattle.xfs_base.specs.declared.entry.Entry.{Entry}
use Rattle.xfs_base.specs.declared.entry.Place.{Place}
use Rattle.xfs_base.specs.declared.token.Mode.{Mode}
use Rattle.xfs_base.specs.declared.token.Mode.TheVariants.{Nothing, Copy, Own}
use Rattle.xfs_base.specs.declared.token.Stamp.{Stamp}
use Rattle.xfs_base.specs.Modes.{is_held, is_own, same_mode, allows}
use Rattle.xfs_base.specs.Stamps.{is_later}
use Rattle.xfs_base.specs.Limits.{u64_end}
use Rattle.token_client.specs.declared.held.Fetch.{Fetch}
use Rattle.token_client.specs.declared.held.Giving.{Giving}
use Rattle.token_client.specs.declared.held.Held.{Held}
use Rattle.token_client.specs.declared.held.Wanted.{Wanted}

-- nothing is known of a block that no event spoke of
abbrev pub held_new : Held
held_new = record { mode = Nothing; ver = 0; settled = 0; value = None; stamp = record { epoch = 0; turn = 0 }; want = None; fetch = None; giving = None }

-- whether the newest version isn't settled
abbrev pub is_dirty : Held → Bool
is_dirty h = nat_lt h.settled h.ver

-- whether a want or a fetch is open
abbrev pub is_asking : Held → Bool
is_asking h = is_some h.want || is_some h.fetch

-- whether a call that needs this mode has to ask for it
abbrev pub must_ask : Held → Mode → Bool
must_ask h mode = (not (is_asking h) && is_none h.giving) && not (allows h.mode mode)

-- whether the open want has this number and mode
abbrev pub is_wanted : Option Wanted → ℕ → Mode → Bool
is_wanted None req mode = false
is_wanted (Some w) req mode = (w.req == req) && same_mode w.mode mode

-- whether what came with this stamp answers the open want
abbrev pub is_answer : Held → Stamp → ℕ → Mode → Bool
is_answer h stamp req mode = is_wanted h.want req mode && is_later stamp h.stamp

-- whether the block may be written: it is owned and nobody waits to be given it
abbrev pub may_write : Held → Bool
may_write h = (is_own h.mode && is_none h.giving) && nat_lt h.ver u64_end

-- whether a version that is settled is news
abbrev pub is_settled_by : Held → ℕ → Bool
is_settled_by h ver = nat_lt h.settled ver && nat_le ver h.ver

-- whether what was read ends the fetch: a fetch goes on only while there is no want
abbrev pub may_end_fetch : Held → Bool
may_end_fetch h = is_some h.fetch && is_none h.want

-- whether the block may leave the cache: it is held and clean
abbrev pub may_evict : Held → Bool
may_evict h = is_held h.mode && not (is_dirty h)

-- a new want
abbrev pub held_ask : Held → ℕ → Mode → Held
held_ask h req mode = record h { want = Some (record { req = req; again = 0; mode = mode }) }

-- the want was sent once more
abbrev pub asked_again : Held → Wanted → Held
asked_again h w = record h { want = Some (record w { again = w.again + 1 }) }

-- owned at the granted version, with no value until the call writes
abbrev pub held_own : Held → Stamp → ℕ → Held
held_own h stamp ver = record h { mode = Own; ver = ver; settled = ver; value = None; stamp = stamp; want = None; fetch = None }

-- a copy of a settled version
abbrev pub copy_of : Held → Stamp → ℕ → Option (List ℕ) → Held
copy_of h stamp ver value = record h { mode = Copy; ver = ver; settled = ver; value = Some value; stamp = stamp; want = None; fetch = None }

-- a copy that has to be read first
abbrev pub fetch_from : Held → Stamp → ℕ → Place → Held
fetch_from h stamp ver place = record h { mode = Nothing; value = None; stamp = stamp; want = None; fetch = Some (record { ver = ver; place = place }) }

-- a granted copy: of no place, it is of an absent version
abbrev pub take_copy : Held → Stamp → ℕ → Option Place → Held
take_copy h stamp ver None = copy_of h stamp ver None
take_copy h stamp ver (Some place) = fetch_from h stamp ver place

-- what a grant makes of the block
abbrev pub take_grant : Held → Stamp → Mode → Entry → Held
take_grant h stamp mode entry = if is_own mode then held_own h stamp entry.ver else take_copy h stamp entry.ver entry.place

-- the fetch ends with the value that was read
abbrev pub end_fetch : Held → Option Fetch → Option (List ℕ) → Held
end_fetch h None value = h
end_fetch h (Some fetch) value = record h { mode = Copy; ver = fetch.ver; settled = fetch.ver; value = Some value; fetch = None }

-- a new version
abbrev pub held_write : Held → Option (List ℕ) → Held
held_write h value = record h { ver = h.ver + 1; value = Some value }

-- a version is known to be settled
abbrev pub version_settled : Held → ℕ → Held
version_settled h ver = record h { settled = ver }

-- nothing is held any more
abbrev pub let_go : Held → Held
let_go h = record h { mode = Nothing; value = None }

-- want and fetch are over
abbrev pub quit : Held → Held
quit h = record h { want = None; fetch = None }

-- the fetch is dropped
abbrev pub unfetched : Held → Held
unfetched h = record h { fetch = None }

-- the fetch and the giving are dropped
abbrev pub drop_promised : Held → Held
drop_promised h = record h { fetch = None; giving = None }

-- whether a later recall stands there already
abbrev pub gives_after : Option Giving → Stamp → Bool
gives_after None stamp = false
gives_after (Some giving) stamp = is_later giving.stamp stamp

-- the recall is put off; of two the later stands
abbrev pub put_off : Held → Stamp → Bool → Held
put_off h stamp keep = if gives_after h.giving stamp then h else record h { giving = Some (record { stamp = stamp; keep = keep }) }

-- what is held is given up, but for a copy where that may stay; the stamp rises to the recall's
abbrev pub give_up : Held → Stamp → Bool → Held
give_up h stamp keep =
    if keep && is_held h.mode
    then record h { mode = Copy; stamp = stamp; giving = None }
    else record h { mode = Nothing; value = None; stamp = stamp; giving = None }
