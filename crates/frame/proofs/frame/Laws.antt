-- Laws of a run of header, data and check byte, and of what is handed over of a frame, on any bus.
use mathlib.Core.Path.{◌≡◌, refl, sym, ap, ◌∙◌}
use mathlib.Core.Bool.{true}
use mathlib.Core.List.{List, [], ◌∷◌, ◌++◌, append_assoc}
use Prim.Native.Nat.{ℕ, ◌+◌, ◌-◌, ◌≤◌, ◌<◌}
use native.Mathlib.Omega.{arith}
use lib.ListN.{length, take, drop, get_or, length-append, length-drop, get_or-append}
use lib.Seq.{take_at, drop_at, take-add, length-take-le}
use Rattle.frame.specs.declared.response.ResponseKind.{ResponseKind}
use Rattle.frame.specs.Seal.{sealed_by, is_sealed_by}
use Rattle.frame.specs.Response.{kind_number, kind_data}
use Rattle.frame.specs.Refusal.{Outcome, refused, accepted}
use Rattle.frame.specs.Frame.{Frame, frame_size, Parts, parts_at, most_bytes, Sizes, sizes, Handed, Runs, runs}
use Rattle.frame.proofs.seal.Laws.{length_sealed, sealed_again}

-- A header and data with the check byte behind them: what stands where in the run.
module _ (check : List ℕ → ℕ) (h d : List ℕ) where
  abbrev pub run : List ℕ
  run = sealed_by check (h ++ d)

  pub run_length : length run ≡ length h + length d + 1
  run_length = length_sealed check (h ++ d) ∙ ap (λ (n : ℕ). n + 1) (length-append h d)

  run_is : run ≡ h ++ (d ++ check (h ++ d) ∷ [])
  unfolding sealed_by
  run_is = append_assoc h d (check (h ++ d) ∷ [])

  pub run_byte : 0 < length h → get_or run 0 0 ≡ get_or h 0 0
  run_byte some = ap (λ (s : List ℕ). get_or s 0 0) run_is ∙ get_or-append h (d ++ check (h ++ d) ∷ []) 0 0 some

  -- They are the parts of the run, if its header is taken to be as long.
  module _ (n : ℕ) (size : n ≡ length h) where
    header_found : take n run ≡ h
    header_found = (λ i. take (size i) (run_is i)) ∙ take_at h (d ++ check (h ++ d) ∷ []) (length h) refl

    body_found : take (length run - (n + 1)) (drop n run) ≡ d
    body_found =
        let count : length run - (n + 1) ≡ length d = omega (arith, run_length, size) in
        let behind : drop n run ≡ d ++ check (h ++ d) ∷ [] =
        (λ i. drop (size i) (run_is i)) ∙ drop_at h (d ++ check (h ++ d) ∷ []) (length h) refl in
        (λ i. take (count i) (behind i)) ∙ take_at d (check (h ++ d) ∷ []) (length d) refl

    pub parts_found :
        {k k' : ResponseKind} {a a' : List ℕ}
        → k ≡ k'
        → a ≡ a'
        → parts_at n run k a ≡ record { header = h; body = d; kind = k'; response = a' }
    unfolding parts_at
    parts_found kind response = λ i. record { header = header_found i; body = body_found i; kind = kind i; response = response i }

-- A sealed run is that of the header and the data that are cut out of it.
pub run_again :
    (check : List ℕ → ℕ) (s : List ℕ) (n : ℕ)
    → n + 1 ≤ length s
    → is_sealed_by check s ≡ true
    → sealed_by check (take n s ++ take (length s - (n + 1)) (drop n s)) ≡ s
run_again check s n long e =
    let count : n + (length s - (n + 1)) ≡ length s - 1 = omega arith in
    let joint = sym (take-add n (length s - (n + 1)) s) ∙ ap (λ (m : ℕ). take m s) count in
    ap (sealed_by check) joint ∙ sealed_again check s e

-- The parts of a run that is long enough for its header: how long they are, and where they lie.
module _ (n : ℕ) (run : List ℕ) (kind : ResponseKind) (response : List ℕ) (long : n + 1 ≤ length run) where
  header_size_lem : length (take n run) ≡ n
  header_size_lem = length-take-le n run (omega arith)

  body_size : length (take (length run - (n + 1)) (drop n run)) ≡ length run - (n + 1)
  body_size = length-take-le (length run - (n + 1)) (drop n run) (simp length-drop (omega arith))

  pub sizes_at :
      sizes (accepted (parts_at n run kind response))
      ≡ accepted (record { header = n; body = length run - (n + 1); kind = kind_number kind; response = length response })
  unfolding parts_at
  sizes_at = λ i. accepted (record { header = header_size_lem i; body = body_size i; kind = kind_number kind; response = length response })

  pub handed_at :
      (whole : List ℕ)
      → kind_number kind ≤ kind_data
      → response ≡ take (length response) whole
      → length response ≤ length whole
      → length run + length whole ≤ most_bytes
      → Handed run whole (parts_at n run kind response)
  unfolding parts_at
  handed_at whole known told within most =
      record {
        header = ap (λ (m : ℕ). take m run) (sym header_size_lem);
        body = (λ i. take (sym body_size i) (drop (sym header_size_lem i) run));
        whole = omega (arith, header_size_lem, body_size);
        kind = known;
        behind = told;
        within = within;
        most = most;
      }

-- Sizes that are handed over: each within its run, and so small.
pub sizes_handed :
    (first response : List ℕ) (o : Outcome Parts)
    → ((p : Parts) → o ≡ accepted p → Handed first response p)
    → (z : Sizes)
    → sizes o ≡ accepted z
    → (z.header + z.body + 1 ≡ length first) × (z.response ≤ length response) × (length first + length response ≤ most_bytes) × (z.kind ≤ kind_data)
sizes_handed first response (refused n) hands z e = absurd (let f : ◌≡◌ {A = ℕ} 0 1 = cc in omega arith)
sizes_handed first response (accepted p) hands z e =
    let h = hands p refl in
    let header : length p.header ≡ z.header = cc in
    let body : length p.body ≡ z.body = cc in
    let kind : kind_number p.kind ≡ z.kind = cc in
    let behind : length p.response ≡ z.response = cc in
    (omega (arith, h.whole, header, body), omega (arith, h.within, behind), h.most, omega (arith, h.kind, kind))

-- The runs that are handed over lie within twelve bytes and within the lent room.
pub runs_handed :
    (o : Outcome Frame) (room : ℕ)
    → ((f : Frame) → o ≡ accepted f → (frame_size f ≤ most_bytes) × (frame_size f ≤ room))
    → (r : Runs)
    → runs o ≡ accepted r
    → (r.first + r.response ≤ most_bytes) × (r.first + r.response ≤ room)
runs_handed (refused n) room within r e = absurd (let f : ◌≡◌ {A = ℕ} 0 1 = cc in omega arith)
runs_handed (accepted f) room within r e =
    let first : length f.first ≡ r.first = cc in
    let behind : length f.response ≡ r.response = cc in
    let w = within f refl in
    (omega (arith, w.0, first, behind), omega (arith, w.1, first, behind))
