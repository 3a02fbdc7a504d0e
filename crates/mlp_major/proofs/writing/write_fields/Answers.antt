use Rattle.std.proofs.Common.{◌≡◌, ◌++◌, ◌∷◌, [], ℕ, sym, ap, arith}
use Rattle.std.specs.List.{flat_map}
use Rattle.std.proofs.lemmas.Result.{err_from_is_err_and}
use Rattle.mlp_bits.specs.Bits.{bits_of}
use Rattle.mlp_layout.specs.Writing.{field_bits}
use Rattle.mlp_layout.proofs.WritingLaws.{wrote_as, filled_as, filled_then, filled_first, then_writes, writes_as}
use Rattle.mlp_major.specs.MajorSync.{fields, with_signature, sync, signature}
use Rattle.mlp_major.proofs.SyncWriting.{digit_small, sync_fits, fields_text, piece_1, piece_2, piece_3, piece_4, piece_5}
use Rattle.mlp_major.proofs.writing.write_fields.Goals as goal

pub returns-in_err-put_all : goal.returns-in_err-put_all
returns-in_err-put_all c =
    let p = err_from_is_err_and c.from_residual.result c.from_residual.ensures.1 in
    let m = c.args.major.now in
    let text = sym (fields_text m c.requires) in
    let one : flat_map field_bits ((sync, 31) ∷ (c.kind_bit.result, 1) ∷ []) ≡ piece_1 m = ap (λ (n : ℕ). flat_map field_bits ((sync, 31) ∷ (n, 1) ∷ [])) c.kind_bit.ensures in
    rw p.1 (record {
      ok = tt;
      err = filled_as c.args.w.now c.put_all.new.w _ (fields.spelling (with_signature m)) text (filled_first c.args.w.now c.put_all.new.w (piece_1 m)
          (piece_2 m ++ (piece_3 m ++ (piece_4 m ++ piece_5 m))) (filled_as c.args.w.now c.put_all.new.w _ (piece_1 m) one c.in_err-put_all.ensures.err));
    })

pub returns-in_err-write_format : goal.returns-in_err-write_format
returns-in_err-write_format c =
    let p = err_from_is_err_and c.from_residual-in_err-write_format.result c.from_residual-in_err-write_format.ensures.1 in
    let m = c.args.major.now in
    let text = sym (fields_text m c.requires) in
    let one : flat_map field_bits ((sync, 31) ∷ (c.kind_bit.result, 1) ∷ []) ≡ piece_1 m = ap (λ (n : ℕ). flat_map field_bits ((sync, 31) ∷ (n, 1) ∷ [])) c.kind_bit.ensures in
    rw p.1 (record {
      ok = tt;
      err = filled_as c.args.w.now c.write_format.new.w _ (fields.spelling (with_signature m)) text (filled_then c.args.w.now c.put_all.new.w c.write_format.new.w
          (piece_1 m) (piece_2 m ++ (piece_3 m ++ (piece_4 m ++ piece_5 m))) (wrote_as c.args.w.now c.put_all.new.w _ (piece_1 m) one c.in_ok-put_all.ensures.ok)
          (filled_first c.put_all.new.w c.write_format.new.w (piece_2 m) (piece_3 m ++ (piece_4 m ++ piece_5 m)) c.in_err-write_format.ensures.err));
    })

pub returns-in_err-put_all-2 : goal.returns-in_err-put_all-2
returns-in_err-put_all-2 c =
    let p = err_from_is_err_and c.from_residual-in_err-put_all-2.result c.from_residual-in_err-put_all-2.ensures.1 in
    let m = c.args.major.now in
    let text = sym (fields_text m c.requires) in
    let one : flat_map field_bits ((sync, 31) ∷ (c.kind_bit.result, 1) ∷ []) ≡ piece_1 m = ap (λ (n : ℕ). flat_map field_bits ((sync, 31) ∷ (n, 1) ∷ [])) c.kind_bit.ensures in
    let three : flat_map field_bits ((signature, 16) ∷ (c.from.result, 16) ∷ (c.from-2.result, 16) ∷ (c.from-3.result, 1) ∷ (c.from-4.result, 15) ∷
    (c.from-5.result, 4) ∷ (c.from-6.result, 2) ∷ (c.from-7.result, 2) ∷ (c.from-8.result, 8) ∷ []) ≡ piece_3 m = cc in
    rw p.1 (record {
      ok = tt;
      err = filled_as c.args.w.now c.put_all-2.new.w _ (fields.spelling (with_signature m)) text (filled_then c.args.w.now c.put_all.new.w c.put_all-2.new.w
          (piece_1 m) (piece_2 m ++ (piece_3 m ++ (piece_4 m ++ piece_5 m))) (wrote_as c.args.w.now c.put_all.new.w _ (piece_1 m) one c.in_ok-put_all.ensures.ok)
          (filled_then c.put_all.new.w c.write_format.new.w c.put_all-2.new.w (piece_2 m) (piece_3 m ++ (piece_4 m ++ piece_5 m)) c.in_ok-write_format.ensures.ok
          (filled_first c.write_format.new.w c.put_all-2.new.w (piece_3 m) (piece_4 m ++ piece_5 m) (filled_as c.write_format.new.w c.put_all-2.new.w _ (piece_3 m) three c.in_err-put_all-2.ensures.err))));
    })

pub returns-in_err-put_wide : goal.returns-in_err-put_wide
returns-in_err-put_wide c =
    let p = err_from_is_err_and c.from_residual-in_err-put_wide.result c.from_residual-in_err-put_wide.ensures.1 in
    let m = c.args.major.now in
    let text = sym (fields_text m c.requires) in
    let one : flat_map field_bits ((sync, 31) ∷ (c.kind_bit.result, 1) ∷ []) ≡ piece_1 m = ap (λ (n : ℕ). flat_map field_bits ((sync, 31) ∷ (n, 1) ∷ [])) c.kind_bit.ensures in
    let three : flat_map field_bits ((signature, 16) ∷ (c.from.result, 16) ∷ (c.from-2.result, 16) ∷ (c.from-3.result, 1) ∷ (c.from-4.result, 15) ∷
    (c.from-5.result, 4) ∷ (c.from-6.result, 2) ∷ (c.from-7.result, 2) ∷ (c.from-8.result, 8) ∷ []) ≡ piece_3 m = cc in
    rw p.1 (record {
      ok = tt;
      err = filled_as c.args.w.now c.put_wide.new.w _ (fields.spelling (with_signature m)) text (filled_then c.args.w.now c.put_all.new.w c.put_wide.new.w
          (piece_1 m) (piece_2 m ++ (piece_3 m ++ (piece_4 m ++ piece_5 m))) (wrote_as c.args.w.now c.put_all.new.w _ (piece_1 m) one c.in_ok-put_all.ensures.ok)
          (filled_then c.put_all.new.w c.write_format.new.w c.put_wide.new.w (piece_2 m) (piece_3 m ++ (piece_4 m ++ piece_5 m)) c.in_ok-write_format.ensures.ok
          (filled_then c.write_format.new.w c.put_all-2.new.w c.put_wide.new.w (piece_3 m) (piece_4 m ++ piece_5 m) (wrote_as c.write_format.new.w c.put_all-2.new.w _
          (piece_3 m) three c.in_ok-put_all-2.ensures.ok) (filled_first c.put_all-2.new.w c.put_wide.new.w (piece_4 m) (piece_5 m) c.in_err-put_wide.ensures.err))));
    })

pub write_format-requires : goal.write_format-requires
write_format-requires c = (sync_fits c.args.major.now c.requires).format

pub put_all-requires-2 : goal.put_all-requires-2
put_all-requires-2 c =
    let f = sync_fits c.args.major.now c.requires in (
      (omega arith, omega arith),
      (
        (omega (arith, f.flags), omega arith),
        (
          (omega (arith, f.reserved), omega arith),
          (
            (omega (arith, digit_small c.args.major.now.variable, c.from-3.ensures), omega arith),
            ((omega (arith, f.peak), omega arith), ((omega (arith, f.substreams), omega arith), ((omega (arith, f.carried), omega arith), ((omega (arith, f.extended), omega arith), ((omega (arith, f.info), omega arith), tt))))),
          ),
        ),
      ),
    )

pub returns : goal.returns
returns c =
    let m = c.args.major.now in
    let text = sym (fields_text m c.requires) in
    let one : flat_map field_bits ((sync, 31) ∷ (c.kind_bit.result, 1) ∷ []) ≡ piece_1 m = ap (λ (n : ℕ). flat_map field_bits ((sync, 31) ∷ (n, 1) ∷ [])) c.kind_bit.ensures in
    let three : flat_map field_bits ((signature, 16) ∷ (c.from.result, 16) ∷ (c.from-2.result, 16) ∷ (c.from-3.result, 1) ∷ (c.from-4.result, 15) ∷
    (c.from-5.result, 4) ∷ (c.from-6.result, 2) ∷ (c.from-7.result, 2) ∷ (c.from-8.result, 8) ∷ []) ≡ piece_3 m = cc in
    let five = ap bits_of c.deref.ensures.0 in
    writes_as text (then_writes (writes_as one c.in_ok-put_all.ensures) (then_writes c.in_ok-write_format.ensures
    (then_writes (writes_as three c.in_ok-put_all-2.ensures) (then_writes c.in_ok-put_wide.ensures (writes_as five c.write_bytes.ensures)))))
