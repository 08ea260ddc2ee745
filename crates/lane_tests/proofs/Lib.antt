mod Shorts
