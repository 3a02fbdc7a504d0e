-- What an encoding command does to an input and an output.
use Rattle.std.specs.Prelude.{◌≡◌, ℕ, ◌+◌, ◌<◌, ◌≤◌, Bool, true, false, List, [], ◌++◌, length, take, None, Result, Ok, Err, IfSome}
use Rattle.std.specs.Io.KnownBytes.{Consumes, Appends, IsAtEnd}
use Rattle.mlp_io.specs.Limit.{limit}
use Rattle.mlp_syntax.specs.declared.refusal.PcmFault.TheVariants.{Profile}
use Rattle.mlp_syntax.specs.declared.refusal.ProfileFault.{ProfileFault}
use Rattle.mlp_stream.specs.declared.stop.Stop.{Stop}
use Rattle.mlp_stream.specs.declared.stop.Stop.TheVariants.{Refused, ReadFault, WriteFault, TooLong}
use Rattle.mlp_stream.specs.Sides.{Side}
use Rattle.mlp_stream.specs.Sizes.{window_room}
use Rattle.mlp_stream.specs.Streams.{IsPrefix}
use Rattle.mlp_answers.specs.declared.failure.Failure.{Failure}
use Rattle.mlp_answers.specs.declared.failure.Failure.TheVariants.{Usage, OutOfMemory, Stopped}
use Rattle.mlp_fold.specs.declared.profile.Profile.{Profile as Wanted}
use Rattle.mlp_fold.specs.Profile.{checked}
use Rattle.mlp_stream.specs.declared.refusal.Refusal.TheVariants.{Pcm}
use Rattle.mlp_encoding.specs.Encoded.{Encoded}

-- of a command that makes this end and this output of bytes, which are all (true) or may go on (false)
module _ (Made : Bool → List ℕ → Result Unit Stop → List ℕ → Type 0) where
  -- the answer to an input: past the limit nothing is looked at
  pub record Answer (all : List ℕ) (end : Result Unit Stop) (output : List ℕ) : Type 0 where
    pub within : length all ≤ limit → Made true all end output
    pub past : limit < length all → Made false (take limit all) end output

  -- what the bytes say for sure, however they go on
  pub record Soon (bytes output : List ℕ) : Type 0 where
    pub end : Result Unit Stop
    pub is : Made false bytes end output

  -- an end and an output, and no other
  pub record HasOneAnswer (all : List ℕ) : Type 0 where
    pub some : (end : Result Unit Stop) × (output : List ℕ) × Answer all end output
    pub one : (e f : Result Unit Stop) (xs ys : List ℕ) → Answer all e xs → Answer all f ys → (e ≡ f) × (xs ≡ ys)

  -- no more came out than the bytes taken say, and no less than they say without the latest 16,380
  pub record IsTimely (taken put : List ℕ) : Type 0 where
    pub sure : (xs : List ℕ) × Soon taken xs × IsPrefix put xs
    pub prompt : (early late : List ℕ) → taken ≡ early ++ late → window_room ≤ length late
        → (xs : List ℕ) × Soon early xs × IsPrefix xs put

  -- what the output got begins what it would get
  abbrev pub Begun : List ℕ → List ℕ → Type 0
  Begun all put = (end : Result Unit Stop) × (output : List ℕ) × Answer all end output × IsPrefix put output

  -- what the output got, by the end; without memory nothing is read
  abbrev pub Wrote : Side → List ℕ → List ℕ → Result Unit Failure → Type 0
  Wrote input taken put (Ok _) = IsAtEnd input.behind × IfSome input.before (λ all. Answer all (Ok tt) put)
  Wrote input taken put (Err Usage) = ⊥
  Wrote input taken put (Err OutOfMemory) = (taken ≡ []) × (put ≡ [])
  Wrote input taken put (Err (Stopped (Refused r))) = IfSome input.before (λ all. Answer all (Err (Refused r)) put)
  Wrote input taken put (Err (Stopped ReadFault)) = IsTimely taken put
  Wrote input taken put (Err (Stopped WriteFault)) = IfSome input.before (λ all. Begun all put)
  Wrote input taken put (Err (Stopped TooLong)) = IfSome input.before (λ all. Answer all (Err TooLong) put)

  -- the input lost the bytes taken, no more than one past the limit, and the output gained the bytes put
  pub record Does (input output : Side) (end : Result Unit Failure) : Type 0 where
    pub taken : List ℕ
    pub put : List ℕ
    pub few : length taken ≤ limit + 1
    pub reads : Consumes input.before input.behind taken
    pub writes : Appends output.before output.behind put
    pub wrote : Wrote input taken put end

-- ---- raw PCM

-- a profile that can't be encoded is refused, and both sides are left alone
abbrev pub EncodesBy : Wanted → Result Unit ProfileFault → Side → Side → Result Unit Failure → Type 0
EncodesBy p (Ok _) input output end = Does (Encoded p None) input output end
EncodesBy p (Err fault) input output end =
    (end ≡ Err (Stopped (Refused (Pcm (Profile fault)))))
    × (input.behind ≡ input.before) × (output.behind ≡ output.before)

-- raw PCM of this profile is encoded
abbrev pub EncodesRaw : Wanted → Side → Side → Result Unit Failure → Type 0
EncodesRaw p input output end = EncodesBy p (checked p) input output end
