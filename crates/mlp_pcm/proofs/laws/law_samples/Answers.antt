use Rattle.mlp_pcm.proofs.PackedBack.{packed_back, packable, unpacked_are_rows, unpacked_back, packed_frames, all_packable, all_clear}
use Rattle.mlp_pcm.proofs.laws.law_samples.Goals as goal

pub returns : goal.returns
returns c = record {
  packed = λ width depth channels bytes form one eight r. (packed_back width depth channels form one eight bytes r, packable width depth channels form one eight bytes r);
  rows = λ width depth channels bytes form one eight r clear. unpacked_are_rows width depth channels form one eight bytes r clear;
  unpacked = λ width depth channels rows form one eight are. (
    unpacked_back width depth channels form one eight rows are,
    packed_frames width depth channels form one eight rows are,
    all_packable width depth channels form one eight rows are,
    all_clear width depth channels form one eight rows are,
  );
}
