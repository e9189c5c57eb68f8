-- Places: two rows that tie stand in one log; what an index names beats every other row that it covers; and where no newer version is filed, it
-- stands in the cleaner's log.
use Rattle.std.proofs.Common.{◌≡◌, ℕ, ◌<◌, ◌≤◌, ap, ◌∙◌, sym, arith}
use Rattle.std.proofs.lemmas.Bool.Decides.{nat_tests}
use Rattle.log_protocol.specs.IndexState.{Entry, IndexState, Joins}
use Rattle.log_protocol.proofs.IndexRows.{IndexRows}

-- rows of one version and hop stand in one log
pub same_log : (w : IndexState) (a x b y : ℕ) → IndexRows w → 0 < w.version a x → w.version a x ≡ w.version b y → w.hop a x ≡ w.hop b y → a ≡ b
same_log w a x b y rows some same_version same_hop =
    let c = rows.client_hop a x in
    let d = rows.client_hop b y in
    let f = rows.no_other a x in
    let g = rows.no_other b y in
    let h = rows.one_log a x in
    let i = rows.one_log b y in
    let k = rows.copy_hop x in
    let m = rows.copy_hop y in
    grind (arith, nat_tests)

-- what an entry says stands where it names
pub its : (w : IndexState) (upto : ℕ → ℕ) (entry : Entry) (l q : ℕ) → Joins w.version w.hop upto entry → entry.log ≡ l → entry.seq ≡ q → 0 < entry.version
    → (w.version l q ≡ entry.version) × (w.hop l q ≡ entry.hop)
its w upto entry l q j same_l same_q some = (
  sym (ap (λ z. w.version z entry.seq) same_l ∙ ap (w.version l) same_q) ∙ j.its_version some,
  sym (ap (λ z. w.hop z entry.seq) same_l ∙ ap (w.hop l) same_q)
      ∙ j.its_hop some,
)

-- a row that beats another of its version and is covered keeps the index from naming that one
pub not_named : (w : IndexState) (upto : ℕ → ℕ) (entry : Entry) (l q c b : ℕ) → Joins w.version w.hop upto entry → b ≤ upto c → 0 < w.version l q
    → w.version c b ≡ w.version l q → w.hop l q ≤ w.hop c b → (w.hop l q ≡ w.hop c b → b < q) → entry.log ≡ l → entry.seq ≡ q → ⊥
not_named w upto entry l q c b j within some same further earlier same_l same_q =
    let n = j.newest c b within in
    let p = its w upto entry l q j same_l same_q (omega arith) in
    let r : w.version c b ≡ entry.version = same ∙ p.0 in
    let f = j.furthest c b within r in
    let g : w.hop l q ≡ w.hop c b = let z = p.1 in omega arith in
    let k = j.earliest c b within r (sym g ∙ p.1) (omega arith) in
    let e = earlier g in
    omega arith

-- a covered row that isn't named is beaten by what is
pub record Beats (w : IndexState) (entry : Entry) (l q : ℕ) : Type 0 where
  pub version : w.version l q ≤ entry.version
  pub hop : w.version l q ≡ entry.version → w.hop l q ≤ entry.hop
  pub seq : w.version l q ≡ entry.version → w.hop l q ≡ entry.hop → entry.seq < q

pub named_beats : (w : IndexState) (upto : ℕ → ℕ) (entry : Entry) (l q : ℕ) → IndexRows w → Joins w.version w.hop upto entry → q ≤ upto l → 0 < w.version l q
    → (entry.log ≡ l → entry.seq ≡ q → ⊥) → Beats w entry l q
named_beats w upto entry l q rows j within some elsewhere = record {
  version = j.newest l q within;
  hop = λ same. j.furthest l q within same;
  seq = λ same same_hop.
      let a = j.earliest l q within same same_hop some in
      let v : 0 < entry.version = omega arith in
      let b : entry.log ≡ l =
      same_log w entry.log entry.seq l q rows (let z = j.its_version v in omega arith) (j.its_version v ∙ sym same) (j.its_hop v ∙ sym same_hop) in
      let c : entry.seq ≡ q → ⊥ = elsewhere b in
      grind (arith, nat_tests);
}

-- and where that has the same version, it is a copy in the cleaner's log
pub copied : (w : IndexState) (upto : ℕ → ℕ) (entry : Entry) (l q : ℕ) → IndexRows w → Joins w.version w.hop upto entry → 0 < w.version l q
    → w.version l q ≡ entry.version → Beats w entry l q → entry.log ≡ w.cleaner
copied w upto entry l q rows j some same beats =
    let v : 0 < entry.version = omega arith in
    let a = j.its_version v in
    let b = j.its_hop v in
    let h = beats.hop same in
    let s = beats.seq same in
    let c = rows.client_hop entry.log entry.seq in
    let f = rows.no_other entry.log entry.seq in
    let o = rows.one_seq entry.log entry.seq in
    let p = rows.one_seq l q in
    let d = rows.client_hop l q in
    let g = rows.no_other l q in
    let k = rows.copy_hop q in
    grind (arith, nat_tests)
