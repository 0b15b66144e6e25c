-- What is read of a file that was just opened.
use Rattle.std.proofs.Common.{◌≡◌, ◌&&◌, ℕ, Bool, true, false, List, Option, codes, refl, ap, ◌∙◌, subst, inl, inr}
use Rattle.std.specs.Str.{bytes_eq}
use Rattle.hla_transcript.specs.Watching.{Stream}
use Rattle.hla_files.specs.Streams.{IsTaken, LoadStops}
use Rattle.hla_files.specs.Texts.{opened_stream, IsTakenOf, IsStoppedOf, IsFirstUnread, file_limit}
use Rattle.hla_files.specs.declared.input.LoadFault.{LoadFault}

abbrev pub stream_with : Option (List ℕ) → Bool → Stream
stream_with bytes has_failed = record { bytes = bytes; has_failed = has_failed }

is_opened : (s : Stream) (bytes : Option (List ℕ)) → s.bytes ≡ bytes → s.has_failed ≡ false → s ≡ opened_stream bytes
is_opened s bytes known sound = ap (λ b. stream_with b s.has_failed) known ∙ ap (λ f. stream_with bytes f) sound

pub taken_of : (limit : ℕ) (s left : Stream) (known : Option (List ℕ)) (bytes : List ℕ) → s.bytes ≡ known → s.has_failed ≡ false → IsTaken limit s left bytes → IsTakenOf limit known bytes
taken_of limit s left known bytes is sound taken = (left, subst (λ (s : Stream). IsTaken limit s left bytes) (is_opened s known is sound) taken)

pub stopped_of : (s left : Stream) (known : Option (List ℕ)) (why : LoadFault) → s.bytes ≡ known → s.has_failed ≡ false → LoadStops s left why → IsStoppedOf known why
stopped_of s left known why is sound stops = (left, subst (λ (s : Stream). LoadStops s left why) (is_opened s known is sound) stops)

-- which of the files of two names was not read
pub shared_unread : (bytes_of : List ℕ → Option (List ℕ)) (fed script : List ℕ) (why : LoadFault) → (bytes_eq fed (codes "-") && bytes_eq script (codes "-")) ≡ true → IsStoppedOf (bytes_of (codes "-")) why
    → IsFirstUnread bytes_of fed script (codes "-") why
shared_unread bytes_of fed script why both stopped = rw both (refl, stopped)

pub fed_unread : (bytes_of : List ℕ → Option (List ℕ)) (fed script : List ℕ) (why : LoadFault) → (bytes_eq fed (codes "-") && bytes_eq script (codes "-")) ≡ false → IsStoppedOf (bytes_of fed) why
    → IsFirstUnread bytes_of fed script fed why
fed_unread bytes_of fed script why apart stopped = rw apart (inl (refl, stopped))

pub script_unread : (bytes_of : List ℕ → Option (List ℕ)) (fed script : List ℕ) (why : LoadFault) → (bytes_eq fed (codes "-") && bytes_eq script (codes "-")) ≡ false
    → (bytes : List ℕ) × IsTakenOf file_limit (bytes_of fed) bytes → IsStoppedOf (bytes_of script) why → IsFirstUnread bytes_of fed script script why
script_unread bytes_of fed script why apart taken stopped = rw apart (inr (refl, taken, stopped))
