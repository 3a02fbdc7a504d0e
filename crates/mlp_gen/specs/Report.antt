-- The lines that `gen` writes.
use Rattle.std.specs.Prelude.{ℕ, ◌+◌, List, [], ◌∷◌, ◌++◌, codes, decimal}
use Rattle.mlp_fold.specs.Mix.{channels_of}
use Rattle.mlp_gen.specs.declared.report.Shown.{Shown}
use Rattle.mlp_gen.specs.declared.report.Report.{Report}

abbrev pub line : List ℕ → ℕ → List ℕ
line name number = name ++ codes " " ++ decimal number ++ codes "\n"

-- of a presentation: its number and channels, and behind them its frames and their sum
abbrev pub channels_text : ℕ → ℕ → List ℕ
channels_text k channels = codes "presentation " ++ decimal k ++ codes " channels " ++ decimal channels

abbrev pub frames_text : Shown → List ℕ
frames_text s = codes " frames " ++ decimal s.frames ++ codes " sum " ++ decimal s.sum ++ codes "\n"

abbrev pub presentation_line : ℕ → Shown → List ℕ
presentation_line k s = channels_text k (channels_of k) ++ frames_text s

abbrev pub extract_line : ℕ → Shown → List ℕ
extract_line k s = codes "extract " ++ decimal k ++ codes " bytes " ++ decimal s.extracted ++ codes "\n"

-- one for each presentation, from k on
abbrev pub presentation_lines : ℕ → List Shown → List ℕ
presentation_lines k [] = []
presentation_lines k (s ∷ more) = presentation_line k s ++ presentation_lines (k + 1) more

abbrev pub extract_lines : ℕ → List Shown → List ℕ
extract_lines k [] = []
extract_lines k (s ∷ more) = extract_line k s ++ extract_lines (k + 1) more

abbrev pub report_text : Report → List ℕ
report_text r =
    line (codes "pcm") r.pcm ++ line (codes "stream") r.stream
    ++ presentation_lines 0 r.shown.items ++ extract_lines 0 r.shown.items ++ line (codes "units") r.units
