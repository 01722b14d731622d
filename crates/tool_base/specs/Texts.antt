-- The lines that the program puts. Each ends with one byte 10; numbers are plain decimal.
use Rattle.std.specs.Prelude.{ℕ, List, [], ◌∷◌, ◌++◌, Option, Some, None, codes}
use Rattle.std.specs.Fmt.{decimal}

abbrev pub line : List ℕ → List ℕ
line text = text ++ 10 ∷ []

-- the words fit no command's form
abbrev pub usage_line : List ℕ
usage_line = line (codes "usage")

-- a file couldn't be read or written
abbrev pub file_fault_line : List ℕ
file_fault_line = line (codes "file fault")

-- a call of the net failed
abbrev pub link_fault_line : List ℕ
link_fault_line = line (codes "link fault")

-- a session took as many bytes as it may
abbrev pub input_limit_line : List ℕ
input_limit_line = line (codes "input limit")

-- a record of so many bytes was written
abbrev pub record_line : ℕ → List ℕ
record_line len = codes "record " ++ (decimal len ++ line (codes " bytes"))

-- the state is of the first set, the reply of the second
abbrev pub wrong_set_line : List ℕ → List ℕ → List ℕ
wrong_set_line expected found = codes "wrong set: expected " ++ (expected ++ (codes ", found " ++ (found ++ 10 ∷ [])))

-- the asked index is not below the count of records
abbrev pub absent_line : ℕ → ℕ → List ℕ
absent_line index count = codes "absent: index " ++ (decimal index ++ (codes ", count " ++ (decimal count ++ 10 ∷ [])))

-- no set has the name
abbrev pub unknown_set_line : List ℕ
unknown_set_line = line (codes "unknown set")

-- the index is not below the count of records that the set has at most
abbrev pub index_range_line : ℕ → ℕ → List ℕ
index_range_line index bound = codes "index " ++ (decimal index ++ (codes " is not below " ++ (decimal bound ++ 10 ∷ [])))

-- so many words are needed, and the source holds fewer
abbrev pub words_short_line : ℕ → ℕ → List ℕ
words_short_line needed held = codes "words short: need " ++ (decimal needed ++ (codes ", have " ++ (decimal held ++ 10 ∷ [])))

-- the query has too much noise: the first row, counted from 1, that misses, and its noise
abbrev pub too_noisy_line : ℕ → ℕ → List ℕ
too_noisy_line row noise = codes "too noisy: row " ++ (decimal row ++ (codes ", noise " ++ (decimal noise ++ 10 ∷ [])))

-- the report of a query's noise begins: the set, the index asked for, and how many rows follow
abbrev pub report_line : List ℕ → ℕ → ℕ → List ℕ
report_line set index count =
    codes "set " ++ (set ++ (codes " index " ++ (decimal index ++ (codes " rows " ++ (decimal count ++ 10 ∷ [])))))

-- a left side, or `over` where there is none since the noise is too large
abbrev pub left_text : Option ℕ → List ℕ
left_text (Some left) = decimal left
left_text None = codes "over"

-- a row of the report: its noise, how many numbers of its secret aren't 0, and the sides of the inequality
abbrev pub report_row_line : ℕ → ℕ → ℕ → Option ℕ → ℕ → List ℕ
report_row_line row noise secret left right =
    codes "row " ++ (decimal row ++ (codes " noise " ++ (decimal noise ++ (codes " secret " ++ (decimal secret ++ (codes " left " ++ (left_text left ++ (codes " right " ++ (decimal right ++ 10 ∷ [])))))))))

-- whether the report fits
abbrev pub fits_line : List ℕ
fits_line = line (codes "fits yes")

abbrev pub misses_line : List ℕ
misses_line = line (codes "fits no")

-- a query of that set was made, with a setup and a query of so many bytes
abbrev pub query_line : List ℕ → ℕ → ℕ → List ℕ
query_line set setup query =
    codes "query " ++ (set ++ (codes " setup " ++ (decimal setup ++ (codes " bytes query " ++ (decimal query ++ line (codes " bytes"))))))

-- bytes are not a database's records: a code says why, of records of so many bytes, with the number that it compares
abbrev pub bad_records_line : ℕ → ℕ → ℕ → List ℕ
bad_records_line code len number =
    codes "bad records: code " ++ (decimal code ++ (codes ", length " ++ (decimal len ++ (codes ", number " ++ (decimal number ++ 10 ∷ [])))))

-- a database of that set was written, of so many records of so many bytes
abbrev pub database_line : List ℕ → ℕ → ℕ → List ℕ
database_line set count len =
    codes "database " ++ (set ++ (codes " " ++ (decimal count ++ (codes " records of " ++ (decimal len ++ line (codes " bytes"))))))

-- an input, counted from 1, isn't the frame that is expected: a code says why, and where
abbrev pub bad_frame_line : ℕ → ℕ → ℕ → List ℕ
bad_frame_line input code place =
    codes "bad frame: input " ++ (decimal input ++ (codes ", code " ++ (decimal code ++ (codes ", place " ++ (decimal place ++ 10 ∷ [])))))

-- the server refused the query: its code says why, and where in what it read
abbrev pub peer_refused_line : ℕ → ℕ → List ℕ
peer_refused_line code place = codes "peer refused: code " ++ (decimal code ++ (codes ", place " ++ (decimal place ++ 10 ∷ [])))

-- a reply of that set was written, of so many bytes
abbrev pub reply_line : List ℕ → ℕ → List ℕ
reply_line set len = codes "reply " ++ (set ++ (codes " " ++ (decimal len ++ line (codes " bytes"))))
